use Rattle.std.proofs.Common.{◌-◌, ◌≤◌}
use Rattle.wh_search.specs.Frontiers.{problem}
use Rattle.wh_search.specs.Ways.{AreTried, state_on}
use Rattle.wh_search.proofs.straight.next_on.Given as goal

abbrev pub invariant-loop-i : goal.invariant-loop-i
invariant-loop-i l = record {
  few : l.before ≤ 5;
  are_tried : AreTried (problem l.errand) (l.here - 1) l.time (state_on l.stand) l.before;
}

abbrev pub decreases-loop-i : goal.decreases-loop-i
decreases-loop-i l = l.before
