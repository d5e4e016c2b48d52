use Rattle.wh_tasks.proofs.Listed.{IsWalk}
use Rattle.wh_tasks.proofs.cell_lists.latest.Given as goal

abbrev pub invariant-loop-at : goal.invariant-loop-at
invariant-loop-at l = IsWalk l.stops l.cell l.start l.at

abbrev pub decreases-loop-at : goal.decreases-loop-at
decreases-loop-at l = l.at
