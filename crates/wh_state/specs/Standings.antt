use Rattle.std.specs.Prelude.{◌≡◌, ℕ, ◌<◌, ◌≤◌, List, [], ◌∷◌, false, Some, length, map, slice_get, All}
use Rattle.wh_grid.specs.declared.cell.Cell.{Cell}
use Rattle.wh_path.specs.Paths.{ends}
use Rattle.wh_tasks.specs.declared.task.Task.{Task}
use Rattle.wh_tasks.specs.declared.task.Load.{Load}
use Rattle.wh_tasks.specs.Tasks.{IsTask, visited, load_for}
use Rattle.wh_tasks.specs.Changes.{IsInTime}
use Rattle.wh_tasks.specs.Loads.{task_of, Holds}
use Rattle.wh_points.specs.Points.{Site}
use Rattle.wh_core.specs.States.{State}
use Rattle.wh_core.specs.Laws as laws

-- what callers see of the state that is kept: the state, and for how many more tasks it has room
pub record Standing : Type 0 where
  pub state : State
  pub room : ℕ

-- Loads and tasks agree: an agent's load is what its task leaves it to do, and the agent of a task of which a stop is
-- left has no other load. So each task has at most one agent, and each agent at most one task.
pub record AreTied (loads : List Load) (tasks : List Task) : Type 0 where
  pub holds : (agent n : ℕ) (load : Load) → slice_get loads agent ≡ Some load → task_of load ≡ Some n → Holds tasks agent n load
  pub known : (agent n : ℕ) (task : Task) → IsTask tasks n task → task.agent ≡ Some agent → visited task < length task.stops →
      slice_get loads agent ≡ Some (load_for n task)

-- the load is what an agent's tasks leave it to do: of no other task of its is a stop left
pub record IsLoadOf (tasks : List Task) (agent : ℕ) (load : Load) : Type 0 where
  pub holds : (n : ℕ) → task_of load ≡ Some n → Holds tasks agent n load
  pub done : (n : ℕ) (task : Task) → IsTask tasks n task → (task_of load ≡ Some n → ⊥) → task.agent ≡ Some agent → length task.stops ≤ visited task

-- what a state that is kept keeps
pub record IsSound (clock : ℕ) (paths : List (List Cell)) (cells : List Cell) (loads : List Load) (slots : List ℕ) (tasks : List Task) : Type 0 where
  pub clock_fits : clock ≤ 1000000000
  pub few : length paths ≤ 256
  pub ends_each : cells ≡ ends paths
  pub loads_each : length loads ≡ length paths
  pub slots_each : length slots ≡ length paths
  pub tied : AreTied loads tasks
  pub in_time : All (IsInTime clock) tasks

-- a state of some site of at most 256 agents, with which a warehouse may go on there
pub record IsSoundSomewhere (s : State) : Type 0 where
  pub site : Site
  pub few : length site.layout.agents ≤ 256
  pub sound : laws.IsSound site s

-- the state in which each agent stands at its start and has no load, and there are no tasks
abbrev pub standing_at : List Cell → ℕ → List ℕ → State
standing_at starts clock slots = record {
  clock = clock;
  closed = false;
  paths = map (λ cell. cell ∷ []) starts;
  loads = map (λ _. Load.None) starts;
  slots = slots;
  tasks = [];
}
