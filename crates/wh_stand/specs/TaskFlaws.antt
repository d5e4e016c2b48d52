-- the flaws of a task
use Rattle.std.specs.Prelude.{◌≡◌, ◌≢◌, ℕ, ◌<◌, ◌≤◌, List, Some, length}
use Rattle.wh_grid.specs.declared.cell.Cell.{Cell}
use Rattle.wh_path.specs.Paths.{cell_at, place_of}
use Rattle.wh_points.specs.Points.{Layout}
use Rattle.wh_tasks.specs.declared.task.Task.{Task}
use Rattle.wh_tasks.specs.Tasks.{IsOpen, visited, stops_left}
use Rattle.wh_core.specs.Steps.{IsOwn}
use Rattle.wh_core.specs.Laws.{IsStationCell, IsTimed}
use Rattle.wh_stand.specs.declared.flaw.Flaw.{Flaw}
use Rattle.wh_stand.specs.Parts.{Parts, state_of}

-- The form of a task, which its reader sees to: it has 2 to 8 stops, no more visits than stops, and none while no agent has it.
pub record IsInForm (task : Task) : Type 0 where
  pub two : 2 ≤ length task.stops
  pub eight : length task.stops ≤ 8
  pub few : visited task ≤ length task.stops
  pub fresh : IsOpen task → visited task ≡ 0

-- a stop of the task is left
abbrev pub IsLeft : Task → Type 0
IsLeft task = visited task < length task.stops

-- the agent has the task, and a stop of it is left
pub record IsHeld (agent : ℕ) (task : Task) : Type 0 where
  pub agent_is : task.agent ≡ Some agent
  pub left : IsLeft task

-- as long as a stop is left, all are stations
abbrev pub HasStations : Layout → Task → Type 0
HasStations layout task = IsLeft task → (i : ℕ) → i < length task.stops → IsStationCell layout (cell_at task.stops i)

-- a stop of the task is left, the cell of one is no station, and all stops before that one are stations
pub record IsNoStation (layout : Layout) (task : Task) (cell : Cell) : Type 0 where
  pub left : IsLeft task
  pub number : ℕ
  pub within : number < length task.stops
  pub there : cell_at task.stops number ≡ cell
  pub no_station : ¬ IsStationCell layout cell
  pub before : (i : ℕ) → i < number → IsStationCell layout (cell_at task.stops i)

-- if an agent has the task, it is one of these
abbrev pub HasKnown : List (List Cell) → Task → Type 0
HasKnown paths task = (agent : ℕ) → task.agent ≡ Some agent → agent < length paths

-- the agent of the task is none of these
pub record IsStranger (paths : List (List Cell)) (task : Task) (agent : ℕ) : Type 0 where
  pub agent_is : task.agent ≡ Some agent
  pub unknown : length paths ≤ agent

-- whoever holds the task holds no earlier one
abbrev pub IsAlone : Parts → Task → Type 0
IsAlone parts task = (agent n : ℕ) (other : Task) → IsHeld agent task → ¬ IsOwn (state_of parts) agent n other

-- who holds the task holds also this earlier one
pub record IsSecond (parts : Parts) (task : Task) (n : ℕ) : Type 0 where
  pub agent : ℕ
  pub held : IsHeld agent task
  pub other : Task
  pub own : IsOwn (state_of parts) agent n other

-- whoever holds the task is not at the stop that comes next
abbrev pub IsAway : List (List Cell) → Task → Type 0
IsAway paths task = (agent : ℕ) → IsHeld agent task → cell_at (stops_left task) 0 ≢ place_of paths agent

-- who holds the task is at the stop that comes next
pub record IsAtNext (paths : List (List Cell)) (task : Task) : Type 0 where
  pub agent : ℕ
  pub held : IsHeld agent task
  pub here : cell_at (stops_left task) 0 ≡ place_of paths agent

-- a task with no flaw, behind these parts
pub record IsFitTask (layout : Layout) (parts : Parts) (task : Task) : Type 0 where
  pub stations : HasStations layout task
  pub timed : IsTimed parts.clock task
  pub known : HasKnown parts.paths task
  pub alone : IsAlone parts task
  pub away : IsAway parts.paths task

-- the first flaw of what the agent of a task is to do for it, behind these parts
abbrev pub IsDutyFlaw : Parts → Task → Flaw → Type 0
IsDutyFlaw parts task (Flaw.HasAnother n) = IsSecond parts task n
IsDutyFlaw parts task (Flaw.AtItsNextStop n) = IsAlone parts task × IsAtNext parts.paths task × (n ≡ length parts.tasks)
IsDutyFlaw parts task flaw = ⊥

-- The first flaw of a task that comes behind these parts: its stops are looked at first, then its clocks, then whether its agent is
-- known, and last what that is to do for it.
abbrev pub IsTaskFlaw : Layout → Parts → Task → Flaw → Type 0
IsTaskFlaw layout parts task (Flaw.NoStation cell) = IsNoStation layout task cell
IsTaskFlaw layout parts task Flaw.Clocks = HasStations layout task × ¬ IsTimed parts.clock task
IsTaskFlaw layout parts task (Flaw.UnknownAgent agent) = HasStations layout task × IsTimed parts.clock task × IsStranger parts.paths task agent
IsTaskFlaw layout parts task flaw = HasStations layout task × IsTimed parts.clock task × HasKnown parts.paths task × IsDutyFlaw parts task flaw
