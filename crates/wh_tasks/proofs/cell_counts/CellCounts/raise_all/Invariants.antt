use Rattle.std.proofs.Common.{take}
use Rattle.wh_tasks.specs.CellCounts.{IsRaised, times}
use Rattle.wh_tasks.proofs.cell_counts.CellCounts.raise_all.Given as goal

abbrev pub invariant-loop-cell : goal.invariant-loop-cell
invariant-loop-cell l = IsRaised l.fn.self l.self (λ cell. times cell (take l.cell-index l.cells))
