-- when agents come to their next stops
use Rattle.std.specs.Prelude.{◌≡◌, ◌≢◌, ℕ, ◌+◌, ◌<◌, List, Some, length, slice_index_or}
use Rattle.wh_grid.specs.declared.cell.Cell.{Cell}
use Rattle.wh_path.specs.Paths.{at, cell_at, path_of}
use Rattle.wh_tasks.specs.declared.task.Task.{Task}
use Rattle.wh_tasks.specs.Tasks.{IsTask, visited}

-- by the path the next stop of the task of this number is not come to before the clock that is due
abbrev pub IsAwayFor : ℕ → List Cell → List Task → ℕ → ℕ → Type 0
IsAwayFor clock path tasks due n =
    (task : Task) (k : ℕ) → IsTask tasks n task → visited task < length task.stops → clock + k < due → at path k ≢ cell_at task.stops (visited task)

-- by its path the agent does not come to the next stop of a task of its before the clock that is due
abbrev pub IsAway : ℕ → List Cell → List Task → ℕ → ℕ → Type 0
IsAway clock path tasks due agent =
    (n : ℕ) (task : Task) (k : ℕ) → IsTask tasks n task → task.agent ≡ Some agent → visited task < length task.stops → clock + k < due → at path k ≢ cell_at task.stops (visited task)

-- no agent comes to the next stop of a task of its before its clock
pub record AreDue (clock : ℕ) (paths : List (List Cell)) (tasks : List Task) (dues : List ℕ) : Type 0 where
  pub each : length dues ≡ length paths
  pub away : (agent : ℕ) → IsAway clock (path_of paths agent) tasks (slice_index_or dues agent 0) agent

-- the same of all agents but one
pub record OthersAreDue (but clock : ℕ) (paths : List (List Cell)) (tasks : List Task) (dues : List ℕ) : Type 0 where
  pub each : length dues ≡ length paths
  pub away : (agent : ℕ) → agent ≢ but → IsAway clock (path_of paths agent) tasks (slice_index_or dues agent 0) agent
