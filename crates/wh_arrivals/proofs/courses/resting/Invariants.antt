use Rattle.std.proofs.Common.{◌≡◌, ◌∷◌, [], map, take}
use Rattle.wh_grid.specs.declared.cell.Cell.{Cell}
use Rattle.wh_arrivals.proofs.courses.resting.Given as goal

abbrev pub invariant-loop-start : goal.invariant-loop-start
invariant-loop-start l = l.paths.items ≡ map (λ (cell : Cell). cell ∷ []) (take l.start-index l.starts)
