use Rattle.std.proofs.Common.{length}
use Rattle.wh_convoy.proofs.Found.{Passed}
use Rattle.wh_convoy.proofs.finding.whole_bytes.Given as goal

abbrev pub invariant-loop-line : goal.invariant-loop-line
invariant-loop-line l = Passed l.text l.rest

abbrev pub decreases-loop-line : goal.decreases-loop-line
decreases-loop-line l = length l.rest
