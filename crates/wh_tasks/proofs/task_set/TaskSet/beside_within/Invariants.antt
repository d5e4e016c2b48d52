use Rattle.wh_tasks.proofs.Nearby.{KeepsField, LeastMet, IsBeside, IsNear}
use Rattle.wh_tasks.proofs.Walking.{bound_of, StandsThere}
use Rattle.wh_tasks.proofs.task_set.TaskSet.beside_within.Given as goal

abbrev pub invariant-loop-at : goal.invariant-loop-at
invariant-loop-at g l = record {
  stop : StandsThere l.self-inside.stops.stops l.own l.at;
  kept : KeepsField (g.F.Distances.grid l.fn.field) (g.F.Distances.grid l.field) (g.F.Distances.source l.fn.field) (g.F.Distances.source l.field)
      (LeastMet (IsBeside l.self.tasks l.self.ends l.ends l.self-inside.stops.stops l.own (IsNear (g.F.Distances.grid l.fn.field) (g.F.Distances.source l.fn.field) l.limit) l.at) l.found);
}

abbrev pub decreases-loop-at : goal.decreases-loop-at
decreases-loop-at g l = bound_of l.at
