-- what a duty asks of a path
use Rattle.std.specs.Prelude.{ℕ, ◌≤◌, ⊤, List, length, Contains}
use Rattle.wh_grid.specs.declared.cell.Cell.{Cell}
use Rattle.wh_planner.specs.declared.duty.Duty.{Duty}
use Rattle.wh_planner.specs.declared.duty.Duty.TheVariants.{Deliver, Park}
use Rattle.wh_planner.specs.Duties.{Delivers, ParksAt}

-- the paths that do what the duty asks
abbrev pub Serves : Duty → (List Cell → Type 0)
Serves (Deliver stops) = Delivers stops.now
Serves (Park allowed) = ParksAt (Contains allowed.now)

-- how many times the path may cover the map: once for each stop, and twice to park
abbrev pub legs : Duty → ℕ
legs (Deliver stops) = length stops.now
legs (Park allowed) = 2

-- a delivery has 2 to 9 stops: up to 8, and home
abbrev pub IsDuty : Duty → Type 0
IsDuty (Deliver stops) = (2 ≤ length stops.now) × (length stops.now ≤ 9)
IsDuty (Park allowed) = ⊤
