use Rattle.std.proofs.Common.{ℕ, ◌<◌}
use Rattle.wh_drive.specs.Refusals.{Enters}
use Rattle.wh_drive.proofs.execution.Execution.none_enters.Given as goal

abbrev pub invariant-loop-agent : goal.invariant-loop-agent
invariant-loop-agent l = (k : ℕ) → k < l.agent → ¬ Enters l.self l.cells k
