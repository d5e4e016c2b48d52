-- what a task is: its phases, its stops that are left, and what its agent does for it
use Rattle.std.specs.Prelude.{◌≡◌, ℕ, ◌-◌, List, Bool, true, false, Option, Some, None, length, drop, slice_get, nat_lt}
use Prim.Native.Nat.{zero, suc}
use Rattle.wh_grid.specs.declared.cell.Cell.{Cell}
use Rattle.wh_path.specs.Paths.{cell_at}
use Rattle.wh_tasks.specs.declared.task.Task.{Task}
use Rattle.wh_tasks.specs.declared.task.Phase.{Phase}
use Rattle.wh_tasks.specs.declared.task.Load.{Load}

-- how many stops were visited
abbrev pub visited : Task → ℕ
visited task = length task.visits

-- the stops that are left to visit
abbrev pub stops_left : Task → List Cell
stops_left task = drop (visited task) task.stops

-- the cell where it is picked up: the first stop
abbrev pub pickup : Task → Cell
pickup task = cell_at task.stops 0

-- the cell where it is delivered: the last stop
abbrev pub delivery : Task → Cell
delivery task = cell_at task.stops (length task.stops - 1)

-- carried until all stops were visited
abbrev pub carried_or_done : Bool → Phase
carried_or_done true = Phase.Carried
carried_or_done false = Phase.Done

-- the phase of a task with this agent, with this many of its stops visited
abbrev pub phase_of : Option ℕ → ℕ → ℕ → Phase
phase_of None seen stops = Phase.Open
phase_of (Some agent) zero stops = Phase.Assigned
phase_of (Some agent) (suc seen) stops = carried_or_done (nat_lt (suc seen) stops)

-- open until an agent has it, assigned until its first visit, carried until its last one
abbrev pub phase : Task → Phase
phase task = phase_of task.agent (visited task) (length task.stops)

-- no agent has it
abbrev pub IsOpen : Task → Type 0
IsOpen task = task.agent ≡ None

-- the load of an agent on account of a task that has come so far
abbrev pub load_in : Phase → ℕ → ℕ → Load
load_in Phase.Open n seen = Load.None
load_in Phase.Assigned n seen = Load.Fetching n
load_in Phase.Carried n seen = Load.Carrying n seen
load_in Phase.Done n seen = Load.None

-- what the agent of task n is doing for it
abbrev pub load_for : ℕ → Task → Load
load_for n task = load_in (phase task) n (visited task)

-- the task of this number
abbrev pub IsTask : List Task → ℕ → Task → Type 0
IsTask tasks n task = slice_get tasks n ≡ Some task
