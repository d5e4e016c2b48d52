-- agents that were stopped
use Rattle.std.specs.Prelude.{ℕ, Contains}
use Rattle.wh_grid.specs.declared.cell.Cell.{Cell}
use Rattle.wh_path.specs.Paths.{path_of}
use Rattle.wh_points.specs.Points.{Site}
use Rattle.wh_tasks.specs.declared.task.Task.{Task}
use Rattle.wh_tasks.specs.Tasks.{stops_left}
use Rattle.wh_planner.specs.Duties.{Delivers}
use Rattle.wh_core.specs.States.{State}
use Rattle.wh_core.specs.Steps.{IsOwn, tour}

-- the agent was stopped: it has a task, and its path does not lead through the stops that are left, of which one is at the cell
pub record Awaits (site : Site) (s : State) (agent : ℕ) (cell : Cell) : Type 0 where
  pub number : ℕ
  pub task : Task
  pub own : IsOwn s agent number task
  pub halts : ¬ Delivers (tour site agent (stops_left task)) (path_of s.paths agent)
  pub left : Contains (stops_left task) cell
