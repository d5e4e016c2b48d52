-- vehicles that are brought to given steps, tick by tick
use Rattle.std.specs.Prelude.{◌≡◌, ◌≢◌, ℕ, ◌<◌, ◌≤◌, min, List, length, slice_index}
use Rattle.wh_drive.specs.declared.vehicle.Vehicle.{Vehicle}
use Rattle.wh_drive.specs.Drives.{Drive, clock, planned, reached}
use Rattle.wh_drive.specs.Runs.{Event, Run, IsReached}
use Rattle.wh_drive.specs.Standstills.{OnlyGo}
use Rattle.wh_order.specs.Orders.{Order, vehicle_in, Represents}

-- Each vehicle stands where it is at the time if it goes along with the clock, no further than its step.
pub record StandBy (time : ℕ) (steps : List ℕ) (vehicles : List Vehicle) : Type 0 where
  pub all : length vehicles ≡ length steps
  pub each : (agent : ℕ) → agent < length steps →
      vehicle_in vehicles agent ≡ record { reached = min (slice_index steps agent) time; told = min (slice_index steps agent) time }

-- a run of vehicles alone leads from the drive to one whose order it is
pub record GoesOn (d : Drive) (o : Order) : Type 0 where
  pub events : List Event
  pub only : OnlyGo events
  pub end : Drive
  pub run : Run d events end
  pub represents : Represents o end

-- The agent's step is not before the clock's, and the plan had another at the clock's cell before, whose step is no later.
pub record IsTooEarly (d : Drive) (steps : List ℕ) (agent : ℕ) : Type 0 where
  pub other : ℕ
  pub before : ℕ
  pub known : agent < length steps
  pub other_known : other < length steps
  pub differ : other ≢ agent
  pub comes : clock d ≤ slice_index steps agent
  pub earlier : before < clock d
  pub there : planned d other before ≡ planned d agent (clock d)
  pub late : slice_index steps other ≤ before

-- So no run of vehicles, however the plan goes on, has them all at these steps.
abbrev pub NoneIsTooEarly : Type 0
NoneIsTooEarly =
    (d : Drive) (steps : List ℕ) (agent : ℕ) (events : List Event) (later : Drive) → IsTooEarly d steps agent → IsReached events later →
    ((i time : ℕ) → time ≤ clock d → planned later i time ≡ planned d i time) → length later.vehicles ≡ length steps →
    ¬ ((i : ℕ) → i < length steps → reached later i ≡ slice_index steps i)
