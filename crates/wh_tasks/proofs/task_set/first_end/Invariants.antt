use Rattle.std.proofs.Common.{take}
use Rattle.std.specs.Prelude.{All, Contains}
use Rattle.wh_tasks.proofs.task_set.first_end.Given as goal

abbrev pub invariant-loop-cell : goal.invariant-loop-cell
invariant-loop-cell l = All (λ cell. ¬ Contains l.ends cell) (take l.cell-index l.cells)
