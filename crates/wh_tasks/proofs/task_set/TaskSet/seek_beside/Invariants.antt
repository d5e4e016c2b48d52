use Rattle.wh_tasks.proofs.Nearby.{KeepsField, IsSoughtFor, IsBeside, Any}
use Rattle.wh_tasks.proofs.Walking.{bound_of, StandsThere}
use Rattle.wh_tasks.proofs.task_set.TaskSet.seek_beside.Given as goal

abbrev pub invariant-loop-at : goal.invariant-loop-at
invariant-loop-at g l = record {
  stop : StandsThere l.self-inside.stops.stops l.own l.at;
  kept : KeepsField (g.F.Distances.grid l.fn.field) (g.F.Distances.grid l.field) (g.F.Distances.source l.fn.field) (g.F.Distances.source l.field)
      (IsSoughtFor (g.F.Distances.grid l.fn.field) (IsBeside l.self.tasks l.self.ends l.ends l.self-inside.stops.stops l.own Any l.at) (g.F.Distances.sought l.field) l.found.first l.found.last);
}

abbrev pub decreases-loop-at : goal.decreases-loop-at
decreases-loop-at g l = bound_of l.at
