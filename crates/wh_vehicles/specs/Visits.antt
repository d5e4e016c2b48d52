-- the visits of tasks that the vehicles of a warehouse have made
use Rattle.std.specs.Prelude.{◌≡◌, ℕ, ◌-◌, List, map, Some}
use Rattle.wh_tasks.specs.declared.task.Task.{Task}
use Rattle.wh_tasks.specs.Tasks.{IsTask}
use Rattle.wh_drive.specs.Visits.{IsMade}
use Rattle.wh_vehicles.specs.Plans.{Fleet}

-- a visit that an agent makes of a task: at which of its stops, counted from 0
pub record Visit : Type 0 where
  pub agent : ℕ
  pub task : ℕ
  pub number : ℕ

-- the steps of the plan at which the visits of a task come, where the plan began at this clock
abbrev pub visit_steps : ℕ → Task → List ℕ
visit_steps opening task = map (λ clock. clock - opening) task.visits

-- A vehicle has made the visit: the task is its agent's, and it has reached the step at which the plan makes that visit.
pub record HasMade (opening : ℕ) (fleet : Fleet) (v : Visit) : Type 0 where
  pub task : Task
  pub is_task : IsTask fleet.state.tasks v.task task
  pub agent_is : task.agent ≡ Some v.agent
  pub made : IsMade fleet.drive v.agent (visit_steps opening task) v.number
