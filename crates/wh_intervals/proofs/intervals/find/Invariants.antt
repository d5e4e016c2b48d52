use Rattle.std.proofs.Common.{length}
use Rattle.wh_intervals.specs.Places.{slot}
use Rattle.wh_intervals.proofs.Places.{IsWalk}
use Rattle.wh_intervals.proofs.intervals.find.Given as goal

abbrev pub invariant-loop-link : goal.invariant-loop-link
invariant-loop-link l = IsWalk (slot (length l.heads)) l.noted l.interval l.link

abbrev pub decreases-loop-link : goal.decreases-loop-link
decreases-loop-link l = l.link
