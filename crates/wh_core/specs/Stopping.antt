-- a warehouse that was stopped, as its vehicles really stand
use Rattle.std.specs.Prelude.{◌≡◌, ◌≢◌, ℕ, ◌<◌, ◌≤◌, List, [], ◌∷◌, Option, None, length, map, take}
use Prim.Native.Nat.{zero, suc}
use Rattle.wh_grid.specs.declared.cell.Cell.{Cell}
use Rattle.wh_grid.specs.Grids.{IsPassable}
use Rattle.wh_path.specs.Paths.{cell_at}
use Rattle.wh_points.specs.Points.{Site}
use Rattle.wh_tasks.specs.declared.task.Task.{Task}
use Rattle.wh_tasks.specs.Tasks.{IsTask, visited, stops_left}
use Rattle.wh_core.specs.States.{State}
use Rattle.wh_core.specs.Steps.{IsOwn}
use Rattle.wh_core.specs.Laws.{IsStationCell, IsBeginning, LoadsAgree}

-- a passable cell for each agent, where its vehicle stands, and no two at one
pub record Stand (site : Site) (places : List Cell) : Type 0 where
  pub all : length places ≡ length site.layout.agents
  pub passable : (agent : ℕ) → agent < length places → IsPassable site.grid (cell_at places agent)
  pub apart : (i j : ℕ) → i < length places → j < length places → i ≢ j → cell_at places i ≢ cell_at places j

-- without a visit that was made no agent has a task
abbrev pub agent_after : ℕ → Option ℕ → Option ℕ
agent_after zero agent = None
agent_after (suc made) agent = agent

-- the task with the first so many of its visits
abbrev pub made_of : ℕ → Task → Task
made_of made task = record task { agent = agent_after made task.agent; visits = take made task.visits }

-- What vehicles have really made of a state: each stands at its place, and of each task the first so many visits were made.
-- A task none of whose visits was made is open again; the agent of any other has it still, and no other of which stops are
-- left. No vehicle stands at the stop that it is to visit next, and the stops of a task that is not done are stations.
pub record IsStopped (site : Site) (old new : State) (places : List Cell) (made : ℕ → ℕ) : Type 0 where
  pub clock : new.clock ≡ old.clock
  pub slots : length new.slots ≡ length old.slots
  pub paths : new.paths ≡ map (λ cell. cell ∷ []) places
  pub count : length new.tasks ≡ length old.tasks
  pub tasks : (n : ℕ) (task : Task) → IsTask old.tasks n task → (made n ≤ visited task) × IsTask new.tasks n (made_of (made n) task)
  pub stations : (n : ℕ) (task : Task) → IsTask old.tasks n task → made n < length task.stops →
      (i : ℕ) → i < length task.stops → IsStationCell site.layout (cell_at task.stops i)
  pub seats : length new.loads ≡ length places
  pub loads : (agent : ℕ) → agent < length places → LoadsAgree new agent
  pub away : (agent n : ℕ) (task : Task) → IsOwn new agent n task → cell_at (stops_left task) 0 ≢ cell_at places agent

-- From there a warehouse may go on.
abbrev pub StoppedMayGoOn : Type 0
StoppedMayGoOn =
    (site : Site) (old new : State) (places : List Cell) (made : ℕ → ℕ) → IsBeginning site old → Stand site places →
    IsStopped site old new places made → IsBeginning site new

-- Two sound states that tell the same of all but the loads are one.
pub record TellTheSame (one other : State) : Type 0 where
  pub clock : one.clock ≡ other.clock
  pub closed : one.closed ≡ other.closed
  pub paths : one.paths ≡ other.paths
  pub slots : one.slots ≡ other.slots
  pub tasks : one.tasks ≡ other.tasks

abbrev pub LoadsAreTold : Type 0
LoadsAreTold = (site : Site) (one other : State) → IsBeginning site one → IsBeginning site other → TellTheSame one other → one ≡ other
