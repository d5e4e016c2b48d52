use Rattle.std.proofs.Common.{take}
use Rattle.wh_timetable.specs.Timetables.{IsTold}
use Rattle.wh_timetable.proofs.stays.Stays.note_paths.Given as goal

abbrev pub invariant-loop-i : goal.invariant-loop-i
invariant-loop-i l = IsTold l.self (take l.i l.paths)
