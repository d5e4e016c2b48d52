-- what a path that parks is, and a shortest one
use Rattle.std.specs.Prelude.{◌≡◌, ◌+◌, ◌*◌, ◌≤◌, List, All, Contains}
use Rattle.wh_grid.specs.declared.cell.Cell.{Cell}
use Rattle.wh_grid.specs.Grids.{Floor, passable_cells}
use Rattle.wh_resv.specs.Others.{Others}
use Rattle.wh_path.specs.Paths.{horizon, at, end, last_index, IsWalk, IsFree}

-- a path, however long, from loc to one of the allowed cells, free of all others for ever
pub record IsParking (g : Floor) (others : Others) (loc : Cell) (allowed : List Cell) (p : List Cell) : Type 0 where
  pub starts : at p 0 ≡ loc
  pub walk : IsWalk g p
  pub free : All (λ q. IsFree others.nofollow p q) others.paths
  pub parks : Contains allowed (end p)

-- a shortest one within the bound
pub record IsLeastParking (g : Floor) (others : Others) (loc : Cell) (allowed : List Cell) (p : List Cell) : Type 0 where
  pub is_parking : IsParking g others loc allowed p
  pub bounded : last_index p ≤ horizon others.paths + 2 * passable_cells g
  pub least : (q : List Cell) → IsParking g others loc allowed q → last_index p ≤ last_index q
