use Rattle.std.proofs.Common.{◌≡◌, ◌++◌, map, take, drop}
use Rattle.wh_path.specs.Paths.{advanced}
use Rattle.wh_arrivals.proofs.courses.advance_all.Given as goal

abbrev pub invariant-loop-path : goal.invariant-loop-path
invariant-loop-path l = l.paths ≡ map advanced (take l.path-index l.fn.paths) ++ drop l.path-index l.fn.paths
