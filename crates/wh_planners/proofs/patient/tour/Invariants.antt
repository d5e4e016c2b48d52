use Rattle.wh_planners.specs.Patience.{IsPatient}
use Rattle.wh_planners.proofs.patient.tour.Given as goal

abbrev pub invariant-loop-i : goal.invariant-loop-i
invariant-loop-i l = IsPatient l.grid l.avoid l.fn.own l.fn.wait l.stops l.i l.path
