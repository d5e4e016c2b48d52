use Rattle.std.proofs.Common.{◌≡◌, take}
use Rattle.wh_handover.proofs.stopped.first_visits.Given as goal

abbrev pub invariant-loop-clock : goal.invariant-loop-clock
invariant-loop-clock l = l.first ≡ take l.clock-index l.visits
