use Rattle.std.proofs.Common.{◌≡◌, take}
use Rattle.wh_tasks.proofs.task_set.TaskSet.of.Given as goal

abbrev pub invariant-loop-task : goal.invariant-loop-task
invariant-loop-task l = record {
  tasks : l.set.tasks ≡ take l.task-index l.tasks;
  ends : l.set.ends ≡ l.fn.ends;
}
