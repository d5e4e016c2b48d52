-- how long an agent is on its way through the stops that are left
use Rattle.std.specs.Prelude.{ℕ, List, [], ◌∷◌, drop}
use Prim.Native.Nat.{suc}
use Rattle.wh_grid.specs.declared.cell.Cell.{Cell}
use Rattle.wh_tasks.specs.Arrivals.{stops_here}

-- the stops that are left when each next one that is this cell is visited
abbrev pub left_past : Cell → List Cell → List Cell
left_past here stops = drop (stops_here here stops) stops

-- by how many of the cells, one after another, all stops are visited; all of the cells where not even these do
abbrev pub cells_through : List Cell → List Cell → ℕ
cells_through [] stops = 0
cells_through (cell ∷ cells) [] = 0
cells_through (cell ∷ cells) (stop ∷ stops) = suc (cells_through cells (left_past cell (stop ∷ stops)))
