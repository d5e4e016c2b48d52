-- where vehicles stand, so that a warehouse that was stopped may go on from there
use Rattle.std.specs.Prelude.{ℕ, List, [], ◌∷◌}
use Prim.Native.Nat.{suc}
use Rattle.wh_grid.specs.declared.cell.Cell.{Cell}
use Rattle.wh_points.specs.Points.{Site}
use Rattle.wh_core.specs.Stopping.{Stand}
use Rattle.wh_drive.specs.declared.vehicle.Vehicle.{Vehicle}
use Rattle.wh_drive.specs.Drives.{Drive, place}
use Rattle.wh_vehicles.specs.Plans.{Fleet, Happening, AllHappen, IsOpening}

-- where these vehicles have arrived, the first of them with this number
abbrev pub stands_from : Drive → ℕ → List Vehicle → List Cell
stands_from d n [] = []
stands_from d n (v ∷ vehicles) = place d n ∷ stands_from d (suc n) vehicles

-- where all have arrived
abbrev pub stands : Drive → List Cell
stands d = stands_from d 0 d.vehicles

-- In whatever order things happened, from whatever beginning, vehicles stand at passable cells, and no two at one.
abbrev pub VehiclesStand : Type 0
VehiclesStand =
    (site : Site) (opening : Fleet) (happenings : List Happening) (fleet : Fleet) → IsOpening site opening →
    AllHappen site opening happenings fleet → Stand site (stands fleet.drive)
