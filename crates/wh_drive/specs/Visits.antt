-- the visits of a task, and when a vehicle has made them
use Rattle.std.specs.Prelude.{◌≡◌, ℕ, ◌<◌, ◌≤◌, List, length, slice_index}
use Rattle.wh_drive.specs.Drives.{Drive, planned, reached, place}
use Rattle.wh_drive.specs.Runs.{Event, Arrive, Step, Run, IsReached}

-- Of a task's visits, at these times of the plan from the opening on, the agent's vehicle has made the one of this number.
pub record IsMade (d : Drive) (agent : ℕ) (times : List ℕ) (number : ℕ) : Type 0 where
  pub visit : number < length times
  pub over : slice_index times number ≤ reached d agent

-- the times are in order
abbrev pub InOrder : List ℕ → Type 0
InOrder times = (i j : ℕ) → i ≤ j → j < length times → slice_index times i ≤ slice_index times j

-- Visits are made in the task's order: with one all before it are made.
abbrev pub VisitsAreInOrder : Type 0
VisitsAreInOrder =
    (d : Drive) (agent : ℕ) (times : List ℕ) (i j : ℕ) → InOrder times → i ≤ j → IsMade d agent times j → IsMade d agent times i

-- Each is made once: by the vehicle's arrival at its step and no other event, and then the vehicle stands there.
pub record MakesVisit (event : Event) (new : Drive) (agent time : ℕ) : Type 0 where
  pub by : event ≡ Arrive agent time
  pub stands : place new agent ≡ planned new agent time

abbrev pub EachIsMadeOnArrival : Type 0
EachIsMadeOnArrival =
    (events : List Event) (old : Drive) (event : Event) (new : Drive) (agent : ℕ) (times : List ℕ) (number : ℕ) → IsReached events old →
    Step old event new → ¬ IsMade old agent times number → IsMade new agent times number →
    MakesVisit event new agent (slice_index times number)

-- What is made stays made.
abbrev pub WhatIsMadeStays : Type 0
WhatIsMadeStays =
    (events : List Event) (old : Drive) (later : List Event) (new : Drive) (agent : ℕ) (times : List ℕ) (number : ℕ) → IsReached events old →
    Run old later new → IsMade old agent times number → IsMade new agent times number
