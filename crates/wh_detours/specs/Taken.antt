-- cells at which somebody is at each time, and the grid without them
use Rattle.std.specs.Prelude.{◌≡◌, ℕ, ◌+◌, ◌*◌, ◌<◌, ◌≤◌, ◌↔◌, ◌⊎◌, List, Bool, true, false, length, slice_index_or, slice_set}
use Rattle.wh_grid.specs.declared.cell.Cell.{Cell}
use Rattle.wh_grid.specs.Grids.{Floor, IsPassable, passable_cells}
use Rattle.wh_path.specs.Paths.{at, last_index, path_of}
use Rattle.wh_resv.specs.Calls.{IsVacant}
use Rattle.wh_resv.specs.Others.{Others}
use Rattle.wh_search.specs.Steps.{AddsNone}

-- the cell is vacant at no time, as where one of the others stays from now on for ever
abbrev pub IsTaken : Others → Cell → Type 0
IsTaken others c = (k : ℕ) → IsVacant others.paths c k → ⊥

-- one of the first n paths is at the cell, and has no steps left
abbrev pub IsStay : List (List Cell) → ℕ → Cell → Type 0
IsStay paths n c = (i : ℕ) × (i < n) × (last_index (path_of paths i) ≡ 0) × (at (path_of paths i) 0 ≡ c)

-- the cell may be walked on, and is not a taken one where one of the first n paths stays
pub record IsLeft (g : Floor) (others : Others) (paths : List (List Cell)) (n : ℕ) (c : Cell) : Type 0 where
  pub passable : IsPassable g c
  pub free : IsTaken others c → IsStay paths n c → ⊥

-- a grid of the same sides, on which just those cells may be walked on that are left
pub record IsWithoutTaken (g : Floor) (others : Others) (paths : List (List Cell)) (without : Floor) : Type 0 where
  pub width : without.width ≡ g.width
  pub height : without.height ≡ g.height
  pub each : (c : Cell) → IsPassable without c ↔ IsLeft g others paths (length paths) c
  pub no_more : passable_cells without ≤ passable_cells g

-- the places of such a grid, row by row, for the first n paths
pub record IsFiltered (g : Floor) (others : Others) (paths : List (List Cell)) (n : ℕ) (walkable : List Bool) : Type 0 where
  pub size : length walkable ≡ length g.walkable
  pub each : (c : Cell) → c.x < g.width → c.y < g.height → (slice_index_or walkable (c.y * g.width + c.x) false ≡ true) ↔ IsLeft g others paths n c
  pub none_added : AddsNone g.walkable walkable

-- the place of a path that stays is barred just where it may be walked on and is taken
abbrev pub IsBarredIf : Floor → Others → List Cell → List Bool → List Bool → Type 0
IsBarredIf g others p old new =
    ((new ≡ slice_set old ((at p 0).y * g.width + (at p 0).x) false) × (last_index p ≡ 0) × IsPassable g (at p 0) × IsTaken others (at p 0))
    ⊎ ((new ≡ old) × (last_index p ≡ 0 → IsPassable g (at p 0) → IsTaken others (at p 0) → ⊥))
