use Rattle.std.proofs.Common.{◌≡◌, ℕ, get_or, set, Option, None, Some, IsSomeAnd, sym, subst, length-set, get_or-set_same, get_or-set_other, inl, inr, arith}
use Rattle.std.proofs.lemmas.Bool.{cases_lt}
use Rattle.wh_path.specs.Paths.{cell_at}
use Rattle.wh_field.specs.declared.sight.Sight.{Sight}
use Rattle.wh_search.specs.Sights.{IsSightAt}
use Rattle.wh_shared.specs.Shares.{stored_grid}
use Rattle.wh_planners.specs.Sharing.{IsFilled}
use Rattle.wh_planners.proofs.deliver.sights_of.Goals as goal

pub loop-i-preserved : goal.loop-i-preserved
loop-i-preserved c =
    let l = c.loop-i in
    let g = stored_grid c.args.store.now in
    let stops = c.args.stops.now in
    let sight = c.sight_of.result in
    let new = set l.sights l.i sight in
    let size = l.invariant.0 in
    let same : get_or new l.i None ≡ sight = get_or-set_same l.sights l.i sight None (omega arith) in (
      omega (arith, length-set l.sights l.i sight),
      (λ j b. elim (cases_lt j l.i) [
        | inl x ↦ subst (λ (o : Option Sight). IsSightAt g o (cell_at stops j)) (sym (get_or-set_other l.sights l.i j sight None (λ e. absurd (omega arith)))) (l.invariant.1 j x)
        | inr x ↦ (let e : l.i ≡ j = omega arith in
            subst (λ (k : ℕ). IsSightAt g (get_or new k None) (cell_at stops k)) e
            (subst (λ (o : Option Sight). IsSightAt g o (cell_at stops l.i)) (sym same) c.sight_of.ensures.sight))
      ]),
      (λ j b. elim (cases_lt j l.i) [
        | inl x ↦ λ filled. subst (λ (o : Option Sight). IsSomeAnd o (λ s. get_or c.args.levels j None ≡ Some s.level)) (sym (get_or-set_other l.sights l.i j sight None (λ e. absurd (omega arith)))) (l.invariant.2 j x filled)
        | inr x ↦ (let e : l.i ≡ j = omega arith in
            subst (λ (k : ℕ). IsFilled c.args.store.now (cell_at stops k) (get_or c.args.levels k None) → IsSomeAnd (get_or new k None) (λ s. get_or c.args.levels k None ≡ Some s.level)) e
            (λ filled. subst (λ (o : Option Sight). IsSomeAnd o (λ s. get_or c.args.levels l.i None ≡ Some s.level)) (sym same) (c.sight_of.ensures.there filled)))
      ]),
    )
