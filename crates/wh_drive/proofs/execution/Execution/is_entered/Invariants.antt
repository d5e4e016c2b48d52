use Rattle.std.proofs.Common.{ℕ, ◌<◌, ◌≢◌}
use Rattle.wh_path.specs.Paths.{cell_at}
use Rattle.wh_drive.specs.Drives.{clock, planned}
use Rattle.wh_drive.proofs.execution.Execution.is_entered.Given as goal

abbrev pub invariant-loop-i : goal.invariant-loop-i
invariant-loop-i l = (k : ℕ) → k < l.i → k ≢ l.agent → cell_at l.cells k ≢ planned l.self l.agent (clock l.self)
