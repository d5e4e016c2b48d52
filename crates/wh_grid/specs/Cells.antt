-- cells told apart by a test
use Rattle.std.specs.Prelude.{Bool, ◌==◌, ◌&&◌}
use Rattle.wh_grid.specs.declared.cell.Cell.{Cell}

-- whether it is this cell, by column and row
abbrev pub is_cell : Cell → Cell → Bool
is_cell c d = (c.x == d.x) && (c.y == d.y)
