-- what fields are of
use Rattle.std.specs.Prelude.{ℕ, List, Bool}
use Rattle.wh_grid.specs.declared.cell.Cell.{Cell}
use Rattle.wh_grid.specs.Grids.{Floor}

-- what a field is of: a grid, and the cell from which all are measured
pub record Source : Type 0 where
  pub grid : Floor
  pub cell : Cell

-- a grid, the cells from the nearest of which all are measured, and the level up to which the distances are known
pub record Sources : Type 0 where
  pub grid : Floor
  pub cells : List Cell
  pub level : ℕ

-- what a lazy field is of: a grid, the cell from which all are measured, and for each place of a table whether it is sought
pub record Seeking : Type 0 where
  pub grid : Floor
  pub cell : Cell
  pub sought : List Bool
