-- a path through some stops to one of several ends
use Rattle.std.specs.Prelude.{◌≡◌, ℕ, ◌+◌, ◌*◌, ◌≤◌, List, length, All, Contains}
use Rattle.wh_grid.specs.declared.cell.Cell.{Cell}
use Rattle.wh_grid.specs.Grids.{Floor, passable_cells}
use Rattle.wh_resv.specs.Others.{Others}
use Rattle.wh_path.specs.Paths.{horizon, at, end, last_index, IsWalk, IsFree, VisitsInOrder}

-- a path, however long, from loc through the stops in order to one of the ends, free of all others for ever
pub record IsTour (g : Floor) (others : Others) (loc : Cell) (via : List Cell) (ends : List Cell) (p : List Cell) : Type 0 where
  pub starts : at p 0 ≡ loc
  pub walk : IsWalk g p
  pub free : All (λ q. IsFree others.nofollow p q) others.paths
  pub visits : VisitsInOrder p via
  pub delivers : Contains ends (end p)

-- the greatest last index of a lawful path
abbrev pub longest_tour : Floor → Others → List Cell → ℕ
longest_tour g others via = horizon others.paths + (length via + 1) * passable_cells g

-- a shortest tour within the bound
pub record IsLeastTour (g : Floor) (others : Others) (loc : Cell) (via : List Cell) (ends : List Cell) (p : List Cell) : Type 0 where
  pub is_tour : IsTour g others loc via ends p
  pub bounded : last_index p ≤ longest_tour g others via
  pub least : (q : List Cell) → IsTour g others loc via ends q → last_index p ≤ last_index q
