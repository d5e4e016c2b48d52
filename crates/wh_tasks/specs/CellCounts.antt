-- a count for each cell of a grid
use Rattle.std.specs.Prelude.{◌≡◌, ℕ, ◌+◌, ◌*◌, ◌<◌, List, count_by, slice_index_or}
use Rattle.wh_grid.specs.declared.cell.Cell.{Cell}
use Rattle.wh_grid.specs.Cells.{is_cell}

-- one count for each cell of a grid of these sides, row by row
pub record Tally : Type 0 where
  pub width : ℕ
  pub height : ℕ
  pub counts : List ℕ

-- the cell lies within the sides
pub record IsInside (width height : ℕ) (cell : Cell) : Type 0 where
  pub in_width : cell.x < width
  pub in_height : cell.y < height

-- the count of a cell
abbrev pub count_of : Tally → Cell → ℕ
count_of tally cell = slice_index_or tally.counts (cell.y * tally.width + cell.x) 0

-- how many of the cells are this one
abbrev pub times : Cell → List Cell → ℕ
times cell cells = count_by (is_cell cell) cells

-- each cell within the sides has the count that is said for it
pub record AreCounts (tally : Tally) (said : Cell → ℕ) : Type 0 where
  pub each : (cell : Cell) → IsInside tally.width tally.height cell → count_of tally cell ≡ said cell

-- each cell within the sides, which stay, counts as much more as is said for it
pub record IsRaised (old new : Tally) (more : Cell → ℕ) : Type 0 where
  pub width : new.width ≡ old.width
  pub height : new.height ≡ old.height
  pub each : (cell : Cell) → IsInside old.width old.height cell → count_of new cell ≡ count_of old cell + more cell
