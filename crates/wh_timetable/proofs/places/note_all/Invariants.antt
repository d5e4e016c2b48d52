use Rattle.std.proofs.Common.{◌+◌}
use Rattle.wh_timetable.specs.Places.{IsNoted}
use Rattle.wh_timetable.proofs.places.note_all.Given as goal

abbrev pub invariant-loop-k : goal.invariant-loop-k
invariant-loop-k l = IsNoted l.cells l.agent l.now (l.now + l.k) l.fn.places l.places
