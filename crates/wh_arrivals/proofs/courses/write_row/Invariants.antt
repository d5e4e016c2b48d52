use Rattle.std.proofs.Common.{◌≡◌, List, map, take}
use Rattle.wh_grid.specs.declared.cell.Cell.{Cell}
use Rattle.wh_path.specs.Paths.{at}
use Rattle.wh_arrivals.proofs.courses.write_row.Given as goal

abbrev pub invariant-loop-path : goal.invariant-loop-path
invariant-loop-path l = l.row.items ≡ map (λ (path : List Cell). at path 0) (take l.path-index l.paths)
