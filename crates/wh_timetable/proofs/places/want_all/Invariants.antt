use Rattle.wh_timetable.specs.Places.{AreSame}
use Rattle.wh_timetable.proofs.places.want_all.Given as goal

abbrev pub invariant-loop-k : goal.invariant-loop-k
invariant-loop-k l = AreSame l.now l.fn.places l.places
