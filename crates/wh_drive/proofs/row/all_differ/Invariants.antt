use Rattle.std.proofs.Common.{ℕ, ◌≢◌, ◌<◌, get_or}
use Rattle.wh_grid.specs.declared.cell.Cell.{Cell}
use Rattle.wh_drive.proofs.row.all_differ.Given as goal

abbrev pub invariant-loop-i : goal.invariant-loop-i
invariant-loop-i l = (k m : ℕ) (d : Cell) → k < m → m < l.i → get_or l.cells k d ≢ get_or l.cells m d

abbrev pub invariant-loop-j : goal.invariant-loop-j
invariant-loop-j l = (k : ℕ) (d : Cell) → k < l.j → get_or l.cells k d ≢ get_or l.cells l.i d
