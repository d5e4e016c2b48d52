use Rattle.std.proofs.Common.{map}
use Rattle.std.proofs.lemmas.Result.{err_from_is_err_and}
use Rattle.wh_grid.specs.MapLines.{is_passable}
use Rattle.wh_grid.specs.Maps.{rows_of}
use Rattle.wh_grid.proofs.RowLemmas.{row_goes_on, row_ends, rows_done}
use Rattle.wh_grid.proofs.GrammarLemmas.{cells_count}
use Rattle.wh_grid.proofs.rows.read_rows.Goals as goal

pub returns-in_err-row-clause-value : goal.returns-in_err-row-clause-value
returns-in_err-row-clause-value c =
    let p = err_from_is_err_and c.from_residual.result c.from_residual.ensures.1 in
    rw (p.1, p.2) (row_ends c.in_err-row.field-0.0 c.loop.walkable.items c.args.size.width c.args.size.height c.loop.counter c.loop.lines (rows_of c.args.size.height c.args.size.width c.args.lines.now) c.loop-test.true c.in_err-row.ensures c.loop.invariant)

pub loop-preserved : goal.loop-preserved
loop-preserved c =
    rw c.in_ok-push_row.ensures (row_goes_on c.loop.walkable.items (map is_passable c.in_ok-row.row.now) c.args.size.width c.args.size.height c.loop.counter c.loop.lines c.read_row.new.lines (rows_of c.args.size.height c.args.size.width c.args.lines.now) c.loop-test.true c.in_ok-row.ensures c.loop.invariant)

pub returns-clause-value : goal.returns-clause-value
returns-clause-value c = rows_done c.loop.walkable.items c.args.size.width c.args.size.height c.loop.counter c.loop.lines (rows_of c.args.size.height c.args.size.width c.args.lines.now) c.loop-test.false c.loop.invariant

pub returns-clause-size : goal.returns-clause-size
returns-clause-size c = cells_count c.args.size.height c.args.size.width c.args.lines.now c.loop.lines c.loop.walkable.items (returns-clause-value c)
