use Rattle.std.proofs.Common.{◌≡◌, ℕ, ◌+◌, ◌-◌, ◌<◌, length, get_or, set, sym, ap, subst, ◌∙◌, length-set, get_or-set_same, get_or-set_other, inl, inr, arith}
use Rattle.std.proofs.lemmas.Bool.{cases_lt}
use Rattle.std.proofs.lemmas.List.{get_or_read}
use Rattle.wh_path.specs.Paths.{cell_at}
use Rattle.wh_search.specs.Manhattan.{by_manhattan}
use Rattle.wh_search.proofs.manhattan.onward_by_manhattan.Goals as goal

-- the number at the leg is by the one after it, which stays
pub loop-done-preserved : goal.loop-done-preserved
loop-done-preserved c =
    let l = c.loop-done in
    let stops = c.args.stops.now in
    let leg = length stops - 1 - l.done in
    let old = l.onward.items in
    let n = c.by_manhattan.result in
    let size = l.invariant.0 in
    let more : leg + 1 + l.done ≡ length stops = omega arith in
    let next = get_or_read old (leg + 1) c.index.result.now (omega arith) c.index.ensures 0 in
    let later = λ (i : ℕ) (b : leg < i). get_or-set_other old leg i n 0 (λ e. absurd (omega arith)) in (
      length-set old leg n ∙ size,
      (λ i last. later i (omega arith) ∙ l.invariant.1 i last),
      (λ i lt done. elim (cases_lt leg i) [
        | inl after ↦ later i after ∙ l.invariant.2 i lt (omega arith) ∙ ap (λ k. by_manhattan (cell_at stops (i + 1)) k (cell_at stops i)) (sym (later (i + 1) (omega arith)))
        | inr here ↦ subst (λ j. get_or (set old leg n) j 0 ≡ by_manhattan (cell_at stops (j + 1)) (get_or (set old leg n) (j + 1) 0) (cell_at stops j)) (let is : leg ≡ i = omega arith in is)
            (get_or-set_same old leg n 0 (omega arith) ∙ c.by_manhattan.ensures ∙ ap (λ k. by_manhattan (cell_at stops (leg + 1)) k (cell_at stops leg)) (next ∙ sym (later (leg + 1) (omega arith))))
      ]),
    )
