-- the vehicles of a warehouse, as callers see them, and how they stand to its run
use Rattle.std.specs.Prelude.{Bool, nat_lt, ◌≡◌, ◌≢◌, ◌⊎◌, ◌↔◌, ℕ, ◌+◌, ◌<◌, List, Some, Contains, length}
use Rattle.std.specs.List.{AllPairs}
use Rattle.wh_grid.specs.declared.cell.Cell.{Cell}
use Rattle.wh_tasks.specs.declared.task.Task.{Task}
use Rattle.wh_tasks.specs.Tasks.{IsTask}
use Rattle.wh_core.specs.States.{State}
use Rattle.wh_book.specs.Drafts.{Seen}
use Rattle.wh_drive.specs.declared.vehicle.Vehicle.{Vehicle}
use Rattle.wh_drive.specs.Drives.{Drive, clock}
use Rattle.wh_order.specs.Orders.{Order, Represents}
use Rattle.wh_order.specs.Settling.{IsQuiet}
use Rattle.wh_order.specs.declared.visit.Told.{Told}
use Rattle.wh_vehicles.specs.Plans.{IsCarriedOut}
use Rattle.wh_vehicles.specs.Visits.{Visit, HasMade}
use Rattle.wh_dispatch.specs.declared.visits.Pending.{Pending}

-- What callers see of vehicles: the order of their visits, how many steps behind one may be before the clock waits, what was
-- told last, the room for a row of the plan, and the tasks that are kept since not all their visits were told, with the room
-- for them.
pub record Crew : Type 0 where
  pub order : Order
  pub bound : ℕ
  pub told : List Told
  pub row : List Cell
  pub pending : List Pending
  pub room : ℕ

-- the vehicle is on its way to a step that it was told to make
abbrev pub is_under_way : Vehicle → Bool
is_under_way v = nat_lt v.reached v.told

-- the order is the drive's, by which the run of the book is carried out, and the plan began with the run
pub record IsInStep (book : Seen) (order : Order) (d : Drive) : Type 0 where
  pub represents : Represents order d
  pub carried : IsCarriedOut book.site book.history (record { state = book.state; drive = d })
  pub time : clock d + book.opening.clock ≡ book.state.clock

-- The first n visits of the task were told, and no others.
pub record IsWatched (s : State) (IsTold : Visit → Type 0) (p : Pending) : Type 0 where
  pub task : Task
  pub is_task : IsTask s.tasks p.task task
  pub agent_is : task.agent ≡ Some p.agent
  pub stops_are : p.stops ≡ length task.stops
  pub told : (number : ℕ) → IsTold (record { agent = p.agent; task = p.task; number = number }) ↔ number < p.told

-- the task is one of those that are kept
abbrev pub IsKept : List Pending → ℕ → Type 0
IsKept pending n = (p : Pending) × Contains pending p × (p.task ≡ n)

-- Each task that an agent has is kept, once, unless all its visits were told.
pub record AreWatched (s : State) (IsTold : Visit → Type 0) (pending : List Pending) : Type 0 where
  pub once : AllPairs (λ p q. p.task ≢ q.task) pending
  pub each : (p : Pending) → Contains pending p → IsWatched s IsTold p
  pub all : (n : ℕ) (task : Task) (agent : ℕ) → IsTask s.tasks n task → task.agent ≡ Some agent →
      IsKept pending n ⊎ ((number : ℕ) → number < length task.stops → IsTold (record { agent = agent; task = n; number = number }))

-- The vehicles are in step, nobody who may start has not been told, and of the tasks just the visits were told that they have made.
pub record IsManned (book : Seen) (crew : Crew) (d : Drive) : Type 0 where
  pub in_step : IsInStep book crew.order d
  pub quiet : IsQuiet d
  pub watched : AreWatched book.state (HasMade book.opening.clock (record { state = book.state; drive = d })) crew.pending
