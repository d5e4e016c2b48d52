-- walks from one cell to another
use Rattle.std.specs.Prelude.{◌≡◌, ◌≤◌, List}
use Rattle.wh_grid.specs.declared.cell.Cell.{Cell}
use Rattle.wh_grid.specs.Grids.{Floor}
use Rattle.wh_path.specs.Paths.{at, end, last_index, IsWalk}

-- a walk from one cell to another
pub record IsWalkBetween (g : Floor) (from to : Cell) (p : List Cell) : Type 0 where
  pub walk : IsWalk g p
  pub starts : at p 0 ≡ from
  pub ends : end p ≡ to

-- a walk from one cell to another, and none between them is shorter
pub record IsLeastWalk (g : Floor) (from to : Cell) (p : List Cell) : Type 0 where
  pub walk : IsWalkBetween g from to p
  pub least : (q : List Cell) → IsWalkBetween g from to q → last_index p ≤ last_index q
