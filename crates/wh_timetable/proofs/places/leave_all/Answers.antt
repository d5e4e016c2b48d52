use Rattle.std.proofs.Common.{◌≡◌, inl, inr, ap, subst, arith}
use Rattle.std.proofs.lemmas.Bool.{cases_lt}
use Rattle.wh_grid.specs.declared.cell.Cell.{Cell}
use Rattle.wh_path.specs.Paths.{cell_at}
use Rattle.wh_timetable.specs.Stays.{IsThere}
use Rattle.wh_timetable.specs.Places.{stays_for}
use Rattle.wh_timetable.proofs.PlaceLemmas.{left_left}
use Rattle.wh_timetable.proofs.places.leave_all.Goals as goal

pub loop-cell-preserved : goal.loop-cell-preserved
loop-cell-preserved c =
    let n = c.loop-cell.cell-index in
    let new = c.leave_at.new.places in
    let cells = c.args.cells.now in
    record {
      left = left_left c.args.agent c.args.now c.args.places.now c.loop-cell.places new c.loop-cell.invariant.left c.leave_at.ensures.left;
      gone = λ k t b late there. elim (cases_lt k n) [
        | inl x ↦ c.loop-cell.invariant.gone k t x late (c.leave_at.ensures.left.fewer (cell_at cells k) t late there)
        | inr x ↦ (let e : k ≡ n = omega arith in
            c.leave_at.ensures.gone t (subst (λ (d : Cell). IsThere (stays_for new d) c.args.agent d t) (ap (cell_at cells) e) there))
      ];
    }

pub returns-clause-gone : goal.returns-clause-gone
returns-clause-gone c = λ k t b late there. c.loop-cell.invariant.gone k t (let done = c.loop-cell-test.false in omega arith) late there
