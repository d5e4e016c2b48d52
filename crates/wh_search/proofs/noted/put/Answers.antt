use Rattle.std.proofs.Common.{◌≡◌, ◌⊎◌, inl, inr, ℕ, All, Contains, refl, sym, subst}
use Rattle.std.proofs.lemmas.List.Elements.{All-set, All-weaker, All-contains, All-contains_itself}
use Rattle.std.proofs.Math.ListN.{set}
use Rattle.wh_search.proofs.noted.put.Goals as goal

pub returns-then-slots-place-eq0-clause-numbers : goal.returns-then-slots-place-eq0-clause-numbers
returns-then-slots-place-eq0-clause-numbers c =
    let old = c.args.slots.now in
    let P : ℕ → Type 0 = λ n. (n ≡ c.args.number) ⊎ Contains old n in
    let all : All P old = All-weaker (Contains old) P (λ n h. inr h) old (All-contains_itself old) in
    let more : All P c.loop.slots = subst (All P) (sym c.loop.invariant) all in
    λ n. All-contains P (set c.loop.slots c.loop.place c.args.number) n (All-set P c.loop.slots c.loop.place c.args.number (inl refl) more)
