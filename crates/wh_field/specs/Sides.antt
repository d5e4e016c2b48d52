-- the cells beside a cell; at a border of the coordinates the cell itself stands for the one that is missing
use Rattle.std.specs.Prelude.{◌+◌, ◌-◌, ◌^◌, List, [], ◌∷◌, min}
use Rattle.wh_grid.specs.declared.cell.Cell.{Cell}

abbrev pub left_of : Cell → Cell
left_of c = record { x = c.x - 1; y = c.y }

abbrev pub right_of : Cell → Cell
right_of c = record { x = min (c.x + 1) (2 ^ 16 - 1); y = c.y }

abbrev pub above : Cell → Cell
above c = record { x = c.x; y = c.y - 1 }

abbrev pub below : Cell → Cell
below c = record { x = c.x; y = min (c.y + 1) (2 ^ 16 - 1) }

-- a cell and those beside it
abbrev pub around : Cell → List Cell
around c = c ∷ left_of c ∷ right_of c ∷ above c ∷ below c ∷ []
