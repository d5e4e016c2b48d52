use Rattle.std.proofs.Common.{◌+◌, ◌∷◌, List, Option, false, get_or, add-one, ◌∙◌, ap, sym, subst, arith}
use Rattle.std.proofs.lemmas.List.{get_or_default}
use Rattle.wh_grid.specs.declared.cell.Cell.{Cell}
use Rattle.wh_path.specs.Paths.{cell_at}
use Rattle.wh_detours.specs.Filled.{IsFilledIf, AreFilled}
use Rattle.wh_detours.specs.declared.filled.Filled.{Filled}
use Rattle.wh_detours.proofs.Filling.{filled_more}
use Rattle.wh_detours.proofs.fields.fields_over.Goals as goal

pub loop-i-preserved : goal.loop-i-preserved
loop-i-preserved c =
    let g = c.args.grid.now in
    let loc = c.args.loc in
    let stops = c.args.stops.now in
    let n = c.loop-i.i in
    let next = c.in_ok-filled_if.field-0 in
    let is = subst (λ (d : Cell). IsFilledIf g d (cell_at stops n) (get_or c.args.wanted n false) next) c.loop-i.invariant.before_is c.in_ok-filled_if.ensures in
    record {
      before_is = get_or_default stops n (record { x = 0; y = 0 }) loc (omega arith) ∙ sym (ap (λ i. get_or (loc ∷ stops) i loc) (add-one n));
      filled = subst (λ (fields : List (Option Filled)). AreFilled g loc stops c.args.wanted (n + 1) fields) (sym c.in_ok-push.ensures.items)
          (filled_more g loc stops c.args.wanted n c.loop-i.kept.items next c.loop-i.invariant.filled is);
    }
