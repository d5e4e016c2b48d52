-- how many paths end at each cell
use Rattle.std.specs.Prelude.{◌≤◌, List, length}
use Rattle.wh_grid.specs.declared.cell.Cell.{Cell}
use Rattle.wh_tasks.specs.CellCounts.{Tally, AreCounts, times}

-- the count of each cell says how many of the cells are that one
pub record IsCounted (tally : Tally) (cells : List Cell) : Type 0 where
  pub few : length cells ≤ 65535
  pub exact : AreCounts tally (λ cell. times cell cells)
