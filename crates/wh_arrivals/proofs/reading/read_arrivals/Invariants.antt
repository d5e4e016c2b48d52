use Rattle.std.proofs.Common.{length}
use Rattle.wh_arrivals.proofs.Tracks.{Behind}
use Rattle.wh_arrivals.proofs.reading.read_arrivals.Given as goal

abbrev pub invariant-loop-line : goal.invariant-loop-line
invariant-loop-line l = Behind l.agents l.text l.rest l.lines l.steps.items

abbrev pub decreases-loop-line : goal.decreases-loop-line
decreases-loop-line l = length l.rest
