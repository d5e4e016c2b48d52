-- Collecting the passable ones of some cells.
use Rattle.std.specs.Prelude.{◌≢◌, ◌↔◌, List, [], ◌∷◌, Option, Some, None, Contains}
use Rattle.std.specs.List.{AllPairs}
use Rattle.wh_grid.specs.declared.cell.Cell.{Cell}
use Rattle.wh_grid.specs.Grids.{Floor, IsPassable}

-- the cell, if there is one
abbrev pub listed : Option Cell → List Cell
listed None = []
listed (Some cell) = cell ∷ []

-- the passable ones of the cells that were seen, none twice
pub record AreOpen (g : Floor) (seen items : List Cell) : Type 0 where
  pub exact : (d : Cell) → Contains items d ↔ (IsPassable g d × Contains seen d)
  pub apart : AllPairs (λ a b. a ≢ b) items
