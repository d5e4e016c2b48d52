use Rattle.wh_tasks.proofs.Nearby.{KeepsField, LeastMet, IsListed, IsNear}
use Rattle.wh_tasks.proofs.task_set.TaskSet.clear_within.Given as goal

abbrev pub invariant-loop-n : goal.invariant-loop-n
invariant-loop-n g l =
    let grid = g.F.Distances.grid l.fn.field in
    let source = g.F.Distances.source l.fn.field in
    KeepsField grid (g.F.Distances.grid l.field) source (g.F.Distances.source l.field)
    (LeastMet (IsListed l.self.tasks l.n-items (IsNear grid source l.limit) l.n-index) l.found)
