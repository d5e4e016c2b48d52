use Rattle.std.proofs.Common.{ℕ, ◌<◌}
use Rattle.wh_grid.specs.Grids.{IsMove}
use Rattle.wh_path.specs.Paths.{cell_at}
use Rattle.wh_drive.specs.Drives.{clock, planned}
use Rattle.wh_drive.proofs.execution.Execution.all_move.Given as goal

abbrev pub invariant-loop-agent : goal.invariant-loop-agent
invariant-loop-agent l = (k : ℕ) → k < l.agent → IsMove (planned l.self k (clock l.self)) (cell_at l.cells k)
