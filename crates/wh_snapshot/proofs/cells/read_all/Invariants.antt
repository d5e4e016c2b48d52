use Rattle.std.proofs.Common.{take}
use Rattle.std.specs.List.{AllByRecursion}
use Rattle.wh_front.specs.Ranges.{CellFits}
use Rattle.wh_snapshot.proofs.cells.read_all.Given as goal

abbrev pub invariant-loop-cell : goal.invariant-loop-cell
invariant-loop-cell l = AllByRecursion CellFits (take l.cell-index l.cells)
