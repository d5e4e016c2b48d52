-- what is found so far along a path
use Rattle.std.specs.Prelude.{◌≡◌, ◌≢◌, ℕ, ◌+◌, ◌<◌, ◌≤◌, List, length}
use Rattle.wh_grid.specs.declared.cell.Cell.{Cell}
use Rattle.wh_grid.specs.Grids.{Floor, IsPassable, IsMove}
use Rattle.wh_path.specs.Paths.{at, cell_at}

-- An agent that comes to the cell goes past each next stop that is the cell: before it `before` stops are behind it, then
-- `after`.
pub record GoesPast (stops : List Cell) (before : ℕ) (here : Cell) (after : ℕ) : Type 0 where
  pub forward : before ≤ after
  pub few : after ≤ length stops
  pub each_here : (i : ℕ) → before ≤ i → i < after → cell_at stops i ≡ here
  pub next_elsewhere : after < length stops → cell_at stops after ≢ here

-- before time n the path is a walk
pub record IsWalkBefore (g : Floor) (p : List Cell) (n : ℕ) : Type 0 where
  pub passable : (k : ℕ) → k < n → IsPassable g (at p k)
  pub moves : (k : ℕ) → k < n → IsMove (at p k) (at p (k + 1))
