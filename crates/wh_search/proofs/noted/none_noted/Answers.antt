use Rattle.std.proofs.Common.{◌≡◌, inl, inr, ℕ, List, Contains, refl, subst}
use Rattle.std.proofs.Math.ListN.{replicate}
use Rattle.std.proofs.lemmas.List.Elements.{All-replicate, All-contains, Contains-append_cases}
use Rattle.wh_search.proofs.noted.none_noted.Goals as goal

pub loop-preserved : goal.loop-preserved
loop-preserved c = λ n h.
    elim (Contains-append_cases c.loop.slots.items (replicate 256 0) n (subst (λ (xs : List ℕ). Contains xs n) c.in_ok-extend_from_slice.ensures.items h)) [
      | inl x ↦ c.loop.invariant n x
      | inr x ↦ All-contains (λ m. m ≡ 0) (replicate 256 0) n (All-replicate (λ m. m ≡ 0) 256 0 refl) x
    ]
