use Rattle.std.proofs.Common.{◌≡◌}
use Rattle.wh_tasks.proofs.Barring.{AreBarredSince}
use Rattle.wh_tasks.proofs.Walking.{bound_of, StandsThere}
use Rattle.wh_tasks.proofs.task_set.bar_at.Given as goal

abbrev pub invariant-loop-at : goal.invariant-loop-at
invariant-loop-at l = record {
  at : StandsThere l.stops.stops l.cell l.at;
  bars : AreBarredSince l.stops.stops l.cell (bound_of l.at) l.fn.bars l.bars l.fn.clear.members l.clear.members;
  bound : l.clear.bound ≡ l.fn.clear.bound;
  room : l.clear.room ≡ l.fn.clear.room;
}

abbrev pub decreases-loop-at : goal.decreases-loop-at
decreases-loop-at l = bound_of l.at
