use Rattle.std.proofs.Common.{◌≢◌, ℕ, ◌<◌, ◌≤◌}
use Rattle.wh_drive.specs.Drives.{planned}
use Rattle.wh_drive.proofs.execution.Execution.comes_between.Given as goal

abbrev pub invariant-loop-time : goal.invariant-loop-time
invariant-loop-time l = (k : ℕ) → l.first ≤ k → k < l.time → planned l.self l.agent k ≢ l.cell
