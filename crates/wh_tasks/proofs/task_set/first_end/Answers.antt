use Rattle.std.proofs.Common.{◌≤◌, length}
use Rattle.std.specs.Prelude.{Contains}
use Rattle.std.proofs.lemmas.List.{take_all}
use Rattle.std.proofs.lemmas.List.Elements.{All-more}
use Rattle.wh_tasks.proofs.task_set.first_end.Goals as goal

pub loop-cell-preserved : goal.loop-cell-preserved
loop-cell-preserved c =
    All-more (λ cell. ¬ Contains c.args.ends.now cell) c.args.cells.now c.loop-cell.cell-index (record { x = 0; y = 0 }) c.loop-cell-test.true c.loop-cell.invariant
    (λ has. let e = c.if-is_end.ensures.1 has in cc)

pub returns-clause-none : goal.returns-clause-none
returns-clause-none c =
    let done : length c.args.cells.now ≤ c.loop-cell.cell-index = c.loop-cell-test.false in
    rw (take_all c.loop-cell.cell-index c.args.cells.now done) at c.loop-cell.invariant
