-- what an agent does where it stands: it visits each next stop that is its cell
use Rattle.std.specs.Prelude.{ℕ, ◌++◌, List, [], ◌∷◌, Bool, Option, Some, None, cond, ◌&&◌, ◌==◌, nat_lt, length, map, replicate, slice_get, count_by}
use Prim.Native.Nat.{suc}
use Rattle.wh_grid.specs.declared.cell.Cell.{Cell}
use Rattle.wh_tasks.specs.declared.task.Task.{Task}
use Rattle.wh_tasks.specs.declared.task.Load.{Load}
use Rattle.wh_grid.specs.Cells.{is_cell}
use Rattle.wh_tasks.specs.Tasks.{visited, stops_left, load_for}

-- how many of the stops, from the first on, are the cell where the agent is
abbrev pub stops_here : Cell → List Cell → ℕ
stops_here here [] = 0
stops_here here (stop ∷ stops) = cond (is_cell here stop) (suc (stops_here here stops)) 0

-- the agent, which is here, visits the next stop, and the next after it, as long as its cell is that stop
abbrev pub visited_at : ℕ → Cell → Task → Task
visited_at clock here task = record task { visits = task.visits ++ replicate (stops_here here (stops_left task)) clock }

-- the arrivals of a task's agent, if it has one
abbrev pub arrived_by : ℕ → (ℕ → Cell) → Option ℕ → Task → Task
arrived_by clock place None task = task
arrived_by clock place (Some agent) task = visited_at clock (place agent) task

-- the task after the arrivals at a clock, with each agent in its place
abbrev pub arrived_task : ℕ → (ℕ → Cell) → Task → Task
arrived_task clock place task = arrived_by clock place task.agent task

-- all tasks after the arrivals
abbrev pub arrived_tasks : ℕ → (ℕ → Cell) → List Task → List Task
arrived_tasks clock place tasks = map (arrived_task clock place) tasks

-- what a task, if it stands, leaves its agent to do
abbrev pub load_of_task : ℕ → Option Task → Load
load_of_task n None = Load.None
load_of_task n (Some task) = load_for n task

-- the load after the arrivals: what its task, as it is then, leaves to do
abbrev pub arrived_load : List Task → Load → Load
arrived_load tasks Load.None = Load.None
arrived_load tasks (Load.Fetching n) = load_of_task n (slice_get tasks n)
arrived_load tasks (Load.Carrying n seen) = load_of_task n (slice_get tasks n)

-- the first visit is among those that these arrivals add
abbrev pub is_picked : Task → Task → Bool
is_picked old new = (visited old == 0) && nat_lt 0 (visited new)

-- the last visit is among those that these arrivals add
abbrev pub is_dropped : Task → Task → Bool
is_dropped old new = nat_lt (visited old) (length old.stops) && (visited new == length old.stops)

-- how many tasks the arrivals pick up
abbrev pub picked : ℕ → (ℕ → Cell) → List Task → ℕ
picked clock place tasks = count_by (λ task. is_picked task (arrived_task clock place task)) tasks

-- how many tasks the arrivals deliver
abbrev pub dropped : ℕ → (ℕ → Cell) → List Task → ℕ
dropped clock place tasks = count_by (λ task. is_dropped task (arrived_task clock place task)) tasks
