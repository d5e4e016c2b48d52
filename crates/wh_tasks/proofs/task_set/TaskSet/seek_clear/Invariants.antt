use Rattle.wh_tasks.proofs.Nearby.{KeepsField, IsSoughtFor, IsListed, Any}
use Rattle.wh_tasks.proofs.task_set.TaskSet.seek_clear.Given as goal

abbrev pub invariant-loop-n : goal.invariant-loop-n
invariant-loop-n g l =
    let grid = g.F.Distances.grid l.fn.field in
    KeepsField grid (g.F.Distances.grid l.field) (g.F.Distances.source l.fn.field) (g.F.Distances.source l.field)
    (IsSoughtFor grid (IsListed l.self.tasks l.n-items Any l.n-index) (g.F.Distances.sought l.field) l.found.first l.found.last)
