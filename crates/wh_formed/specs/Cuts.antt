-- for each point the first later one that is cut off from it
use Rattle.std.specs.Prelude.{◌≡◌, ℕ, ◌<◌, List, length, map, slice_index_or, Option, Some, None}
use Rattle.wh_grid.specs.declared.cell.Cell.{Cell}
use Rattle.wh_points.specs.Points.{Layout, Site}
use Rattle.wh_formed.specs.Verdicts.{AreJoined}

-- the cells of the points, in the order of their file
abbrev pub cells_of : Layout → List Cell
cells_of layout = map (λ point. point.cell) layout.points

-- the first number above a and below n at which T fails, or none where it holds at each
abbrev pub IsFirstFailing : (ℕ → Type 0) → ℕ → ℕ → Option ℕ → Type 0
IsFirstFailing T a n None = (b : ℕ) → a < b → b < n → T b
IsFirstFailing T a n (Some b) = (a < b) × (b < n) × (T b → ⊥) × ((l : ℕ) → a < l → l < b → T l)

-- the first later point to which a point is not joined, or none where it is joined to each later one
abbrev pub IsCutOf : Site → ℕ → Option ℕ → Type 0
IsCutOf site a cut = IsFirstFailing (AreJoined site a) a (length site.layout.points) cut

-- the answers of all points, in order
pub record AreCuts (site : Site) (cuts : List (Option ℕ)) : Type 0 where
  pub size : length cuts ≡ length site.layout.points
  pub exact : (a : ℕ) (d : Option ℕ) → a < length site.layout.points → IsCutOf site a (slice_index_or cuts a d)
