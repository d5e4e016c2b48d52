use Rattle.std.proofs.Common.{ℕ, ◌+◌, ◌-◌, ◌≤◌}
use Rattle.wh_path.specs.Paths.{horizon}
use Rattle.wh_search.specs.Expansions.{MayVisit}
use Rattle.wh_search.proofs.waits.visit_from.Given as goal

abbrev pub invariant-loop-time : goal.invariant-loop-time
invariant-loop-time l = (j : ℕ) → l.fn.k ≤ j → MayVisit l.others l.cell j → l.time ≤ j

abbrev pub decreases-loop-time : goal.decreases-loop-time
decreases-loop-time l = horizon l.others.paths + 1 - l.time
