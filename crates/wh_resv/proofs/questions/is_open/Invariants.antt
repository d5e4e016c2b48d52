use Rattle.std.proofs.Common.{ℕ, ◌<◌}
use Rattle.wh_timetable.specs.Stays.{stay_at}
use Rattle.wh_resv.specs.Looks.{Bars}
use Rattle.wh_resv.proofs.questions.is_open.Given as goal

abbrev pub invariant-loop-stay : goal.invariant-loop-stay
invariant-loop-stay l = (j : ℕ) → j < l.stay-index → Bars l.paths (stay_at l.list j) l.except l.from l.to l.k l.time l.next → ⊥
