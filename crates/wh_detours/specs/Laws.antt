-- why it is the same to deliver on the grid without the cells that are taken
use Rattle.std.specs.Prelude.{◌↔◌, List}
use Rattle.wh_grid.specs.declared.cell.Cell.{Cell}
use Rattle.wh_grid.specs.Grids.{Floor}
use Rattle.wh_resv.specs.Others.{Others}
use Rattle.wh_search.specs.Deliveries.{IsDelivery, IsLeast}
use Rattle.wh_detours.specs.Taken.{IsWithoutTaken}

-- the same paths deliver on both
abbrev pub SameDeliveries : Type 0
SameDeliveries =
    (g without : Floor) (others : Others) (paths : List (List Cell)) (loc : Cell) (stops path : List Cell)
    → IsWithoutTaken g others paths without → IsDelivery g others loc stops path ↔ IsDelivery without others loc stops path

-- a shortest path there is one on the whole grid
abbrev pub AllLeastThere : Type 0
AllLeastThere =
    (g without : Floor) (others : Others) (paths : List (List Cell)) (loc : Cell) (stops path : List Cell)
    → IsWithoutTaken g others paths without → IsLeast without others loc stops path → IsLeast g others loc stops path
