-- A name is another with an end behind it.
use Rattle.std.proofs.Common.{◌≡◌, ◌∙◌, ◌++◌, List, ap, Bool, true, false, None, Some, ℕ, refl, sym}
use Rattle.std.specs.Prelude.{◌≢◌}
use Rattle.std.specs.Str.{bytes_eq}
use Rattle.std.proofs.lemmas.Bool.Decides.{Decides-eqb, Decides-like, same_from_decides}
use Rattle.std.proofs.lemmas.List.{append_cancel_right}
use Rattle.std.proofs.lemmas.Slice.Eq.{bytes_eq-Decides, slice_eq-Decides, strip_suffix_is}
use Rattle.wh_options.proofs.mistake.is_beside.Goals as goal

found_beside : (name other end front : List ℕ) (r : Bool) → name ≡ front ++ end → r ≡ bytes_eq front other → r ≡ bytes_eq name (other ++ end)
found_beside name other end front r whole same =
    same_from_decides r (bytes_eq name (other ++ end))
    (Decides-like r (λ is. whole ∙ ap (λ f. f ++ end) is) (λ is. append_cancel_right front other end (sym whole ∙ is)) (slice_eq-Decides Decides-eqb front other r same))
    (bytes_eq-Decides name (other ++ end))

none_beside : (name other end : List ℕ) → ((front : List ℕ) → name ≢ front ++ end) → false ≡ bytes_eq name (other ++ end)
none_beside name other end never = go (bytes_eq name (other ++ end)) (bytes_eq-Decides name (other ++ end)).0
  where
    go : (b : Bool) → (b ≡ true → name ≡ other ++ end) → false ≡ b
    go true is = absurd (never other (is refl))
    go false is = refl

pub returns-in-Some : goal.returns-in-Some
returns-in-Some c =
    let front = c.in-Some.front.now in
    let whole = strip_suffix_is Decides-eqb c.as_bytes.result.now c.as_bytes-2.result.now (Some c.in-Some.front) c.in-Some.ensures.cases in
    found_beside c.args.name.now c.args.other.now c.args.end.now front c.eq.result
    (sym c.as_bytes.ensures.value ∙ whole ∙ ap (λ e. front ++ e) c.as_bytes-2.ensures.value)
    (c.eq.ensures ∙ ap (bytes_eq front) c.as_bytes-in-Some.ensures.value)

pub returns-in-None : goal.returns-in-None
returns-in-None c =
    let never = strip_suffix_is Decides-eqb c.as_bytes.result.now c.as_bytes-2.result.now None c.in-None.ensures.cases in
    none_beside c.args.name.now c.args.other.now c.args.end.now
    (λ front is. never front (c.as_bytes.ensures.value ∙ is ∙ ap (λ e. front ++ e) (sym c.as_bytes-2.ensures.value)))
