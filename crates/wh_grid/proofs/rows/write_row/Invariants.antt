use Rattle.std.proofs.Common.{◌≡◌, length, map, take}
use Rattle.wh_grid.specs.MapLines.{is_passable}
use Rattle.wh_grid.proofs.rows.write_row.Given as goal

abbrev pub invariant-loop-i : goal.invariant-loop-i
invariant-loop-i l = length l.cells ≡ length l.row × take l.i l.cells ≡ map is_passable (take l.i l.row)
