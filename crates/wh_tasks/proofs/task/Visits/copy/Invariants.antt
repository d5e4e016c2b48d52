use Rattle.std.proofs.Common.{◌≡◌, take}
use Rattle.wh_tasks.proofs.task.Visits.copy.Given as goal

abbrev pub invariant-loop-clock : goal.invariant-loop-clock
invariant-loop-clock l = l.clocks.items ≡ take l.clock-index l.self
