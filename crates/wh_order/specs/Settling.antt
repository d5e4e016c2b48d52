-- all that can be told is told, and steps that stay are passed
use Rattle.std.specs.Prelude.{◌≡◌, ℕ, ◌+◌, ◌-◌, ◌<◌, List, [], ◌∷◌, ◌++◌, cond, length, sum_by}
use Rattle.wh_drive.specs.declared.vehicle.Vehicle.{Vehicle}
use Rattle.wh_drive.specs.Drives.{Drive, planned, reached, told, place, next, IsUnderWay, MayStart, started, arrived}
use Rattle.wh_drive.specs.Runs.{Event, Start, Arrive, Tick, Run}
use Rattle.wh_order.specs.declared.visit.Told.{Told}
use Rattle.wh_grid.specs.Cells.{is_cell}
use Rattle.wh_order.specs.Orders.{Order, Represents}

-- the agent's vehicle is under way to the cell where it stands
pub record Passes (d : Drive) (agent : ℕ) : Type 0 where
  pub known : agent < length d.vehicles
  pub goes : IsUnderWay d agent
  pub stays : planned d agent (reached d agent + 1) ≡ place d agent

-- nobody may be told to go on, and none is under way to the cell where it stands
pub record IsQuiet (d : Drive) : Type 0 where
  pub none_starts : (agent : ℕ) → ¬ MayStart d agent
  pub none_passes : (agent : ℕ) → ¬ Passes d agent

-- Vehicles are told to go on, and pass steps that stay; nothing else happens.
abbrev pub OnlySettle : Drive → List Event → Type 0
OnlySettle d [] = Unit {0}
OnlySettle d (Start agent ∷ events) = OnlySettle (started agent d) events
OnlySettle d (Arrive agent step ∷ events) = Passes d agent × OnlySettle (arrived agent d) events
OnlySettle d (Tick cells ∷ events) = ⊥

-- What is told as a vehicle is to go on: the number of its next step and the cell, unless it stays at its cell.
abbrev pub telling : Drive → ℕ → List Told
telling d agent =
    cond (is_cell (next d agent) (planned d agent (told d agent))) [] (record { agent = agent; step = told d agent + 1; cell = next d agent } ∷ [])

-- all that is told as these happen, in order
abbrev pub told_by : Drive → List Event → List Told
told_by d [] = []
told_by d (Start agent ∷ events) = telling d agent ++ told_by (started agent d) events
told_by d (Arrive agent step ∷ events) = told_by (arrived agent d) events
told_by d (Tick cells ∷ events) = told_by d events

-- From the drive, a run of these leads to one whose order it is, and what is told by them was written behind.
pub record Settles (d : Drive) (o : Order) (before after : List Told) : Type 0 where
  pub events : List Event
  pub only : OnlySettle d events
  pub end : Drive
  pub run : Run d events end
  pub represents : Represents o end
  pub told_are : after ≡ before ++ told_by d events

-- how many cells the vehicles are still to be told, and how many still to arrive at
abbrev pub to_go : Order → ℕ
to_go o = sum_by (λ (v : Vehicle). (o.clock - v.told) + (o.clock - v.reached)) o.vehicles
