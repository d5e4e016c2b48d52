use Rattle.std.proofs.Common.{◌≡◌, ◌++◌, map, drop}
use Rattle.wh_path.specs.Paths.{end}
use Rattle.wh_planner.proofs.others.push_ends.Given as goal

abbrev pub invariant-loop-path : goal.invariant-loop-path
invariant-loop-path l = l.cells.items ++ map end (drop l.path-index l.paths) ≡ l.fn.cells.items ++ map end l.paths
