-- distances and routes, by whole walks
use Rattle.std.specs.Prelude.{◌≡◌, ℕ, ◌<◌, ◌≤◌, ◌⊎◌, List, Bool, length, Option, Some, None, Contains, IsTrue}
use Rattle.std.proofs.Common.{inl, inr}
use Rattle.wh_grid.specs.declared.cell.Cell.{Cell}
use Rattle.wh_grid.specs.Grids.{Floor}
use Rattle.wh_path.specs.Paths.{at, cell_at, last_index}
use Rattle.wh_path.specs.Walks.{IsWalkBetween, IsLeastWalk}
use Rattle.wh_path.proofs.LeastWalks.{least_walk}

-- the last index of a shortest walk between two cells; none where there is no walk
abbrev pub IsDistance : Floor → Cell → Cell → Option ℕ → Type 0
IsDistance g from to None = (p : List Cell) → IsWalkBetween g from to p → ⊥
IsDistance g from to (Some n) = (p : List Cell) × IsLeastWalk g from to p × (last_index p ≡ n)

-- between two cells there is a shortest walk or none, so there is one distance (`distance_is`, `distance_one`)
unfoldable pub distance : Floor → Cell → Cell → Option ℕ
distance g from to = elim (least_walk g from to) [ inl p ↦ Some (last_index p.0) | inr none ↦ None ]

-- a walk from one cell to another that avoids the cells of a list
pub record IsRoute (g : Floor) (from to : Cell) (avoid : List Cell) (p : List Cell) : Type 0 where
  pub walk : IsWalkBetween g from to p
  pub avoids : (k : ℕ) → ¬ Contains avoid (at p k)

-- and no other has a smaller last index
pub record IsLeastRoute (g : Floor) (from to : Cell) (avoid : List Cell) (p : List Cell) : Type 0 where
  pub route : IsRoute g from to avoid p
  pub least : (q : List Cell) → IsRoute g from to avoid q → last_index p ≤ last_index q

-- to the i-th of these cells: a shortest route, and no other of them has a route of fewer steps, nor an earlier one of as few
pub record IsNearestRoute (g : Floor) (from : Cell) (targets avoid : List Cell) (i : ℕ) (p : List Cell) : Type 0 where
  pub within : i < length targets
  pub route : IsLeastRoute g from (cell_at targets i) avoid p
  pub nearest : (j : ℕ) (q : List Cell) → j < length targets → IsRoute g from (cell_at targets j) avoid q →
      (last_index p < last_index q) ⊎ ((last_index p ≡ last_index q) × (i ≤ j))

-- the last index of a shortest walk that starts at any of several cells; none where there is no walk
abbrev pub IsNearestDistance : Floor → List Cell → Cell → Option ℕ → Type 0
IsNearestDistance g sources to None = (source : Cell) → Contains sources source → IsDistance g source to None
IsNearestDistance g sources to (Some n) =
    ((source : Cell) × Contains sources source × IsDistance g source to (Some n))
    × ((source : Cell) (p : List Cell) → Contains sources source → IsWalkBetween g source to p → n ≤ last_index p)

-- the last index of a shortest walk from a cell to any of those for which a test is true; none where there is no walk to any
abbrev pub IsDistanceToFirst : Floor → Cell → (Cell → Bool) → Option ℕ → Type 0
IsDistanceToFirst g from sought None = (to : Cell) → IsTrue (sought to) → IsDistance g from to None
IsDistanceToFirst g from sought (Some n) =
    ((to : Cell) × IsTrue (sought to) × IsDistance g from to (Some n))
    × ((to : Cell) (p : List Cell) → IsTrue (sought to) → IsWalkBetween g from to p → n ≤ last_index p)
