-- which visits are due to be told, and what is kept of tasks
use Rattle.std.specs.Prelude.{ℕ, ◌+◌, ◌-◌, ◌<◌, ◌≤◌, ◌==◌, List, [], ◌∷◌, Bool, Option, Some, None, cond, nat_lt, nat_le, length, map, drop, flat_map, slice_get, Contains}
use Rattle.std.specs.List.{range_with_len, filter, list_any}
use Prim.Native.Nat.{suc}
use Rattle.wh_tasks.specs.declared.task.Task.{Task}
use Rattle.wh_tasks.specs.Tasks.{IsTask}
use Rattle.wh_event.specs.declared.event.Event.{Event}
use Rattle.wh_event.specs.declared.entry.Entry.{Entry}
use Rattle.wh_event.specs.declared.reply.Reply.{Reply}
use Rattle.wh_drive.specs.declared.vehicle.Vehicle.{Vehicle}
use Rattle.wh_drive.specs.Drives.{Drive}
use Rattle.wh_order.specs.Orders.{reached_of, Represents}
use Rattle.wh_book.specs.Drafts.{Seen}
use Rattle.wh_vehicles.specs.Visits.{Visit}
use Rattle.wh_dispatch.specs.declared.visits.Pending.{Pending}
use Rattle.wh_dispatch.specs.Crews.{Crew}

-- how many of the clocks, from the first on, are those of steps that were reached
abbrev pub made_first : ℕ → ℕ → List ℕ → ℕ
made_first opening reached [] = 0
made_first opening reached (clock ∷ clocks) = cond (nat_le (clock - opening) reached) (suc (made_first opening reached clocks)) 0

-- the clocks of the visits of a task, if it stands
abbrev pub clocks_of : Option Task → List ℕ
clocks_of None = []
clocks_of (Some task) = task.visits

-- how many visits of a task that is kept are made
abbrev pub made_of : ℕ → List Task → List Vehicle → Pending → ℕ
made_of opening tasks vehicles p = p.told + made_first opening (reached_of vehicles p.agent) (drop p.told (clocks_of (slice_get tasks p.task)))

-- n visits of a task, from one on
abbrev pub visits_from : ℕ → ℕ → ℕ → ℕ → List Visit
visits_from agent task first count = map (λ number. record { agent = agent; task = task; number = number }) (range_with_len first count)

-- the visits that are to be told of a task that is kept
abbrev pub due_of : ℕ → List Task → List Vehicle → Pending → List Visit
due_of opening tasks vehicles p = visits_from p.agent p.task p.told (made_of opening tasks vehicles p - p.told)

-- of all of them
abbrev pub due_visits : ℕ → List Task → List Vehicle → List Pending → List Visit
due_visits opening tasks vehicles pending = flat_map (due_of opening tasks vehicles) pending

-- all that are made have been told
abbrev pub told_of : ℕ → List Task → List Vehicle → Pending → Pending
told_of opening tasks vehicles p = record p { told = made_of opening tasks vehicles p }

-- not all visits were told
abbrev pub is_left : Pending → Bool
is_left p = nat_lt p.told p.stops

-- what is kept once all that are made have been told
abbrev pub left_after : ℕ → List Task → List Vehicle → List Pending → List Pending
left_after opening tasks vehicles pending = filter is_left (map (told_of opening tasks vehicles) pending)

-- a task that is kept stands, its agent is a known one, and no more visits of it were told than it has
pub record IsStanding (tasks : List Task) (agents : ℕ) (p : Pending) : Type 0 where
  pub task : Task
  pub is_task : IsTask tasks p.task task
  pub known : p.agent < agents
  pub told : p.told ≤ length task.visits

-- how many stops a task has, if it stands
abbrev pub stops_of : Option Task → ℕ
stops_of None = 0
stops_of (Some task) = length task.stops

-- the task that an agent takes by an event, but for its stops
abbrev pub taken_in : Reply → Event → Option Pending
taken_in (Reply.Took n path) (Event.Request agent) = Some (record { agent = agent; task = n; stops = 0; told = 0 })
taken_in reply event = None

-- what is taken, with its stops
abbrev pub with_stops : List Task → Option Pending → Option Pending
with_stops tasks None = None
with_stops tasks (Some p) = Some (record p { stops = stops_of (slice_get tasks p.task) })

-- the task that an agent took by the first of these entries, with its stops
abbrev pub taken_first : List Entry → List Task → Option Pending
taken_first [] tasks = None
taken_first (entry ∷ entries) tasks = with_stops tasks (taken_in entry.reply entry.event)

-- one of those that are kept is the task of this number
abbrev pub has_task : List Pending → ℕ → Bool
has_task pending n = list_any (λ p. p.task == n) pending

-- What is kept besides these once a task was taken: that task, unless it is one of them. (An agent that goes on with its own
-- task takes it again, and some of its visits may have been told.)
abbrev pub added_to : List Pending → Option Pending → List Pending
added_to pending None = []
added_to pending (Some p) = cond (has_task pending p.task) [] (p ∷ [])

-- the same of the task that was taken by the first of these entries
abbrev pub kept_first : List Pending → List Entry → List Task → List Pending
kept_first pending entries tasks = added_to pending (taken_first entries tasks)

-- the tasks that are kept stand, for some drive of the vehicles
pub record SomeStanding (book : Seen) (crew : Crew) : Type 0 where
  pub drive : Drive
  pub represents : Represents crew.order drive
  pub stand : (p : Pending) → Contains crew.pending p → IsStanding book.state.tasks (length drive.vehicles) p

-- what there is, as a list
abbrev pub listed : Option Pending → List Pending
listed None = []
listed (Some p) = p ∷ []
