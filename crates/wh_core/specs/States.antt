-- the state of a warehouse, and the changes that its steps make
use Rattle.std.specs.Prelude.{ℕ, ◌+◌, List, [], ◌∷◌, ◌++◌, Bool, true, false, Some, None, map, slice_index_or, slice_set}
use Rattle.wh_grid.specs.declared.cell.Cell.{Cell}
use Rattle.wh_path.specs.Paths.{place_of, advanced}
use Rattle.wh_points.specs.Points.{Layout, starts}
use Rattle.wh_tasks.specs.declared.task.Task.{Task}
use Rattle.wh_tasks.specs.declared.task.Load.{Load}
use Rattle.wh_tasks.specs.Arrivals as arrivals
use Rattle.wh_tasks.specs.Arrivals.{arrived_tasks, arrived_load}

-- The state of the warehouse. For each agent it has a path from now on, a load, and its planner's slots.
pub record State : Type 0 where
  pub clock : ℕ
  pub closed : Bool
  pub paths : List (List Cell)
  pub loads : List Load
  pub slots : List ℕ
  pub tasks : List Task

-- the load of an agent
abbrev pub load_of : State → ℕ → Load
load_of s agent = slice_index_or s.loads agent Load.None

-- The opening state: each agent stands at its start and has no load, and there are no tasks.
abbrev pub opened : Layout → ℕ → List ℕ → State
opened layout clock slots = record {
  clock = clock;
  closed = false;
  paths = map (λ cell. cell ∷ []) (starts layout);
  loads = map (λ _. Load.None) (starts layout);
  slots = slots;
  tasks = [];
}

-- The arrivals: each agent that has a task visits its next stop, and the next after it, as long as it stands there.
abbrev pub arrived : State → State
arrived s =
    let tasks = arrived_tasks s.clock (place_of s.paths) s.tasks in
    record s { tasks = tasks; loads = map (arrived_load tasks) s.loads }

-- how many tasks the arrivals pick up
abbrev pub picked : State → ℕ
picked s = arrivals.picked s.clock (place_of s.paths) s.tasks

-- how many tasks the arrivals deliver
abbrev pub dropped : State → ℕ
dropped s = arrivals.dropped s.clock (place_of s.paths) s.tasks

-- a task is added, and no agent has it
abbrev pub submitted : List ℕ → List Cell → State → State
submitted client stops s =
    record s { tasks = s.tasks ++ record { client = client; stops = stops; submitted = s.clock; agent = None; visits = [] } ∷ [] }

-- the agent follows the path from now on
abbrev pub adopted : ℕ → List Cell → State → State
adopted agent path s = record s { paths = slice_set s.paths agent path }

-- The agent has the task of this number. (If it had it before, the arrivals that follow tell its load again.)
abbrev pub assigned : ℕ → ℕ → Task → State → State
assigned agent n task s = record s {
  loads = slice_set s.loads agent (Load.Fetching n);
  tasks = slice_set s.tasks n (record task { agent = Some agent });
}

-- one step of time
abbrev pub moved : State → State
moved s = record s { clock = s.clock + 1; paths = map advanced s.paths }

-- the agent's planner has this many slots from now on
abbrev pub reseated : ℕ → ℕ → State → State
reseated agent count s = record s { slots = slice_set s.slots agent count }

-- closed from now on
abbrev pub shut : State → State
shut s = record s { closed = true }
