use Rattle.wh_search.specs.Waits.{NoneComesSooner}
use Rattle.wh_search.proofs.errand.Errand.least_by_stops.Given as goal

abbrev pub invariant-loop-leg : goal.invariant-loop-leg
invariant-loop-leg l = NoneComesSooner l.self l.leg l.from l.time
