-- what the vehicles of a warehouse that stopped have made of its tasks
use Rattle.std.specs.Prelude.{◌≡◌, ℕ, ◌-◌, List, [], ◌∷◌, map, nat_le, slice_index_or, Option, Some, None}
use Rattle.std.specs.List.{prefix_len}
use Rattle.wh_grid.specs.declared.cell.Cell.{Cell}
use Rattle.wh_tasks.specs.declared.task.Task.{Task}
use Rattle.wh_core.specs.Stopping.{made_of}
use Rattle.wh_front.specs.declared.front.Front.{Front}
use Rattle.wh_front.specs.declared.front.Seat.{Seat}
use Rattle.wh_front.specs.declared.front.Submission.{Submission}
use Rattle.wh_front.specs.declared.rules.Kind.TheVariants as kind

-- how many of these visits, one after another, a vehicle has made by its step: steps count from the clock with which the log began
abbrev pub made_first : (first step : ℕ) → List ℕ → ℕ
made_first first step visits = prefix_len (λ clock. nat_le (clock - first) step) visits

-- the step that the vehicle of an agent has reached
abbrev pub reached_by : List ℕ → Option ℕ → ℕ
reached_by steps None = 0
reached_by steps (Some agent) = slice_index_or steps agent 0

-- how many of its visits the vehicle of a task has made
abbrev pub made_in : (first : ℕ) → List ℕ → Task → ℕ
made_in first steps task = made_first first (reached_by steps task.agent) task.visits

-- the task with those alone: without one it is open again
abbrev pub stopped_task : (first : ℕ) → List ℕ → Task → Task
stopped_task first steps task = made_of (made_in first steps task) task

-- submitted by the same caller
abbrev pub stopped_submission : (first : ℕ) → List ℕ → Submission → Submission
stopped_submission first steps told = record { caller = told.caller; task = stopped_task first steps told.task }

-- A front tells of another the same run, stopped where its vehicles stand at these places and have reached these steps.
pub record StopsFront (first : ℕ) (places : List Cell) (steps : List ℕ) (whole front : Front) : Type 0 where
  pub before : front.before ≡ whole.before
  pub rules : front.rules ≡ whole.rules
  pub clock : front.clock ≡ whole.clock
  pub closed : front.closed ≡ whole.closed
  pub kind : front.kind ≡ kind.Stopped
  pub counts : front.counts ≡ whole.counts
  pub slots : map (λ (seat : Seat). seat.slots) front.seats ≡ map (λ (seat : Seat). seat.slots) whole.seats
  pub paths : map (λ (seat : Seat). seat.path) front.seats ≡ map (λ cell. cell ∷ []) places
  pub tasks : front.tasks ≡ map (stopped_submission first steps) whole.tasks
