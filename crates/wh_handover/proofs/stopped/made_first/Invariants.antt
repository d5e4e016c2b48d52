use Rattle.std.proofs.Common.{◌≡◌, ◌+◌, drop}
use Rattle.wh_handover.specs.Stopped.{made_first}
use Rattle.wh_handover.proofs.stopped.made_first.Given as goal

abbrev pub invariant-loop-k : goal.invariant-loop-k
invariant-loop-k l = made_first l.first l.step l.visits ≡ l.k + made_first l.first l.step (drop l.k l.visits)
