use Rattle.std.proofs.Common.{◌≡◌}
use Rattle.wh_tasks.proofs.Walking.{bound_of, StandsThere}
use Rattle.wh_tasks.proofs.Barring.{AreBarredFrom}
use Rattle.wh_tasks.proofs.task_set.bar_again.Given as goal

abbrev pub invariant-loop-at : goal.invariant-loop-at
invariant-loop-at l = record {
  at : StandsThere l.stops.stops l.before l.at;
  bars : AreBarredFrom l.before l.tasks l.ends l.stops.stops (bound_of l.at) l.bars l.clear.members;
  bound : l.clear.bound ≡ l.fn.clear.bound;
  room : l.clear.room ≡ l.fn.clear.room;
}

abbrev pub decreases-loop-at : goal.decreases-loop-at
decreases-loop-at l = bound_of l.at
