-- cells at which an agent can never be, and a grid without some of them
use Rattle.std.specs.Prelude.{◌≡◌, ◌+◌, ◌*◌, ◌≤◌, ◌⊎◌, List, Bool, true, false, length, slice_index_or, slice_set}
use Rattle.wh_grid.specs.declared.cell.Cell.{Cell}
use Rattle.wh_grid.specs.Grids.{Floor, IsPassable, passable_cells}
use Rattle.wh_resv.specs.Others.{Others}
use Rattle.wh_resv.specs.Questions.{IsNeverFree}
use Rattle.wh_search.specs.Manhattan.{manhattan}
use Rattle.wh_search.specs.Steps.{AddsNone}

-- the cell is vacant at no time from which on an agent that is at loc can be there: it takes a step for each column and row by which they are apart
abbrev pub IsClosed : Others → Cell → Cell → Type 0
IsClosed others loc c = IsNeverFree others.paths c (manhattan loc c)

-- a grid with no more cells, which has all those that are not closed
pub record IsWithoutClosed (g : Floor) (others : Others) (loc : Cell) (without : Floor) : Type 0 where
  pub less : (c : Cell) → IsPassable without c → IsPassable g c
  pub left : (c : Cell) → IsPassable g c → (IsClosed others loc c → ⊥) → IsPassable without c
  pub no_more : passable_cells without ≤ passable_cells g

-- the places of such a grid, row by row
pub record AreClosed (g : Floor) (others : Others) (loc : Cell) (walkable : List Bool) : Type 0 where
  pub size : length walkable ≡ length g.walkable
  pub left : (c : Cell) → IsPassable g c → (IsClosed others loc c → ⊥) → slice_index_or walkable (c.y * g.width + c.x) false ≡ true
  pub none_added : AddsNone g.walkable walkable

-- nothing changes, or a place that is closed is barred
abbrev pub IsClosing : Floor → Others → Cell → List Bool → List Bool → Type 0
IsClosing g others loc old new =
    (new ≡ old) ⊎ ((c : Cell) × (new ≡ slice_set old (c.y * g.width + c.x) false) × IsPassable g c × IsClosed others loc c)
