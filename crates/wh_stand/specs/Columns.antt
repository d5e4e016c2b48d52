-- what is kept of the columns of a state
use Rattle.std.specs.Prelude.{◌≡◌, ℕ}
use Rattle.wh_tasks.specs.declared.task.Task.{Task}
use Rattle.wh_tasks.specs.Tasks.{IsTask}
use Rattle.wh_core.specs.States.{State}
use Rattle.wh_stand.specs.Parts.{state_of, parts_of}
use Rattle.wh_stand.specs.TaskFlaws.{HasKnown}

-- its loads are those that its tasks tell
abbrev pub IsTold : State → Type 0
IsTold s = s ≡ state_of (parts_of s)

-- the agents of all its tasks are known
abbrev pub AllKnown : State → Type 0
AllKnown s = (n : ℕ) (task : Task) → IsTask s.tasks n task → HasKnown s.paths task
