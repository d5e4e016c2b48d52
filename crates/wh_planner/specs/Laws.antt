-- laws of clear ways: what routes make them, and what lawful paths they give
use Rattle.std.specs.Prelude.{ℕ, ◌<◌, ◌≤◌, ◌↔◌, List, Bool, length, Contains}
use Rattle.wh_grid.specs.declared.cell.Cell.{Cell}
use Rattle.wh_grid.specs.Grids.{Floor, passable_cells}
use Rattle.wh_path.specs.Paths.{last_index, path_of, end_of, others, ends, IsWalk, AllFree}
use Rattle.wh_field.specs.Distances.{IsLeastRoute}
use Rattle.wh_planner.specs.Duties.{Delivers, ParksAt, IsLawful, IsClearWay, HasRoutes}

-- A known agent on a walk, and any two of the agents' paths are free of each other.
pub record IsUnderWay (g : Floor) (nofollow : Bool) (paths : List (List Cell)) (agent : ℕ) : Type 0 where
  pub known : agent < length paths
  pub walk : IsWalk g (path_of paths agent)
  pub free : AllFree nofollow paths

-- There is a clear way for a delivery exactly where there is a route from stop to stop, each around the others' ends.
abbrev pub ClearWaysGoFromStopToStop : Type 0
ClearWaysGoFromStopToStop =
    (g : Floor) (paths : List (List Cell)) (agent : ℕ) (stops : List Cell) → 1 ≤ length stops →
    ((way : List Cell) × IsClearWay g paths agent (Delivers stops) way)
    ↔ HasRoutes g (ends (others paths agent)) (end_of paths agent) stops

-- A shortest route has fewer steps than the grid has passable cells.
abbrev pub LeastRoutesAreShort : Type 0
LeastRoutesAreShort =
    (g : Floor) (from to : Cell) (avoid walk : List Cell) → IsLeastRoute g from to avoid walk → last_index walk < passable_cells g

-- Where an agent has a clear way for a delivery, it has a lawful path: it goes its own until the others rest, and then on
-- and the clear way, with each leg cut short.
abbrev pub ClearDeliveriesGivePaths : Type 0
ClearDeliveriesGivePaths =
    (g : Floor) (nofollow : Bool) (paths : List (List Cell)) (agent : ℕ) (stops way : List Cell) → IsUnderWay g nofollow paths agent →
    1 ≤ length stops → IsClearWay g paths agent (Delivers stops) way →
    (path : List Cell) × IsLawful g nofollow paths agent (length stops) (Delivers stops) path

-- The same for parking.
abbrev pub ClearParkingsGivePaths : Type 0
ClearParkingsGivePaths =
    (g : Floor) (nofollow : Bool) (paths : List (List Cell)) (agent : ℕ) (allowed way : List Cell) → IsUnderWay g nofollow paths agent →
    IsClearWay g paths agent (ParksAt (Contains allowed)) way →
    (path : List Cell) × IsLawful g nofollow paths agent 2 (ParksAt (Contains allowed)) path
