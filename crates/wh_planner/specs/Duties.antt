-- what a path is for, and which paths an agent may adopt
use Rattle.std.specs.Prelude.{◌≡◌, ℕ, ◌+◌, ◌-◌, ◌*◌, ◌≤◌, List, [], ◌∷◌, Bool, length, All, Contains}
use Rattle.wh_grid.specs.declared.cell.Cell.{Cell}
use Rattle.wh_grid.specs.Grids.{Floor, passable_cells}
use Rattle.wh_field.specs.Distances.{IsRoute}
use Rattle.wh_path.specs.Paths.{at, end, last_index, cell_at, place_of, end_of, others, ends, horizon, IsWalk, IsFree, VisitsInOrder}

-- The path goes through the stops in their order, and ends at the last of them.
pub record Delivers (stops path : List Cell) : Type 0 where
  pub visits : VisitsInOrder path stops
  pub ends_there : end path ≡ cell_at stops (length stops - 1)

-- The path ends at an allowed cell.
abbrev pub ParksAt : (Cell → Type 0) → List Cell → Type 0
ParksAt Allowed path = Allowed (end path)

-- A path that the agent may adopt for a duty, which Serves tells: it is a walk from where the agent is, free of each
-- other's path for ever. It takes no longer than the others may still move, and then one pass over the map for each leg.
pub record IsLawful (g : Floor) (nofollow : Bool) (paths : List (List Cell)) (agent legs : ℕ) (Serves : List Cell → Type 0) (path : List Cell) : Type 0 where
  pub walk : IsWalk g path
  pub starts_here : at path 0 ≡ place_of paths agent
  pub free : All (λ other. IsFree nofollow path other) (others paths agent)
  pub bounded : last_index path ≤ horizon (others paths agent) + legs * passable_cells g
  pub serves : Serves path

-- A walk from where the agent comes to rest, for a duty, that avoids the cells where other paths end. Time plays no part.
pub record IsClearWay (g : Floor) (paths : List (List Cell)) (agent : ℕ) (Serves : List Cell → Type 0) (way : List Cell) : Type 0 where
  pub walk : IsWalk g way
  pub starts_here : at way 0 ≡ end_of paths agent
  pub clear : (k : ℕ) → ¬ Contains (ends (others paths agent)) (at way k)
  pub serves : Serves way

abbrev pub HasNoClearWay : Floor → List (List Cell) → ℕ → (List Cell → Type 0) → Type 0
HasNoClearWay g paths agent Serves = (way : List Cell) → ¬ IsClearWay g paths agent Serves way

-- some walk leads from one cell to another and avoids these
abbrev pub HasRoute : Floor → List Cell → Cell → Cell → Type 0
HasRoute g avoid from to = (walk : List Cell) × IsRoute g from to avoid walk

-- from stop to stop there is a route
abbrev pub HasRoutes : Floor → List Cell → Cell → List Cell → Type 0
HasRoutes g avoid from [] = Unit {0}
HasRoutes g avoid from (stop ∷ stops) = HasRoute g avoid from stop × HasRoutes g avoid stop stops
