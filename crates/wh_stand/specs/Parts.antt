-- a state told part by part, and the state that the parts make
use Rattle.std.specs.Prelude.{ℕ, List, [], ◌∷◌, ◌++◌, Bool, false, Option, Some, None, cond, ◌==◌, ◌&&◌, nat_lt, length, map}
use Prim.Native.Nat.{suc}
use Rattle.std.specs.List.{range_with_len}
use Rattle.wh_grid.specs.declared.cell.Cell.{Cell}
use Rattle.wh_points.specs.Points.{Site}
use Rattle.wh_tasks.specs.declared.task.Task.{Task}
use Rattle.wh_tasks.specs.declared.task.Load.{Load}
use Rattle.wh_tasks.specs.Tasks.{visited, load_for}
use Rattle.wh_core.specs.States.{State}

-- what is told of a state: all but its loads. For each agent it has a path from now on and its planner's slots.
pub record Parts : Type 0 where
  pub clock : ℕ
  pub closed : Bool
  pub paths : List (List Cell)
  pub slots : List ℕ
  pub tasks : List Task

-- it is this agent
abbrev pub is_agent : ℕ → Option ℕ → Bool
is_agent agent None = false
is_agent agent (Some other) = other == agent

-- whether the agent has the task, and a stop of it is left
abbrev pub holds : ℕ → Task → Bool
holds agent task = nat_lt (visited task) (length task.stops) && is_agent agent task.agent

-- what the agent does for the first task that it holds, where the first of these tasks has the number n
abbrev pub load_from : ℕ → ℕ → List Task → Load
load_from agent n [] = Load.None
load_from agent n (task ∷ tasks) = cond (holds agent task) (load_for n task) (load_from agent (suc n) tasks)

-- the load that tasks tell of an agent
abbrev pub told_load : List Task → ℕ → Load
told_load tasks agent = load_from agent 0 tasks

-- The state that the parts make: its loads are those that its tasks tell.
abbrev pub state_of : Parts → State
state_of parts = record {
  clock = parts.clock;
  closed = parts.closed;
  paths = parts.paths;
  loads = map (told_load parts.tasks) (range_with_len 0 (length parts.paths));
  slots = parts.slots;
  tasks = parts.tasks;
}

-- what a state tells beside its loads
abbrev pub parts_of : State → Parts
parts_of s = record { clock = s.clock; closed = s.closed; paths = s.paths; slots = s.slots; tasks = s.tasks }

-- nothing is told yet but the clock, and whether it is closed
abbrev pub begun : ℕ → Bool → Parts
begun clock closed = record { clock = clock; closed = closed; paths = []; slots = []; tasks = [] }

-- one agent more
abbrev pub with_agent : ℕ → List Cell → Parts → Parts
with_agent slots path parts = record parts { paths = parts.paths ++ path ∷ []; slots = parts.slots ++ slots ∷ [] }

-- one task more
abbrev pub with_task : Task → Parts → Parts
with_task task parts = record parts { tasks = parts.tasks ++ task ∷ [] }

-- what callers see of a builder: the site, and what has been told so far
pub record Built : Type 0 where
  pub site : Site
  pub parts : Parts
