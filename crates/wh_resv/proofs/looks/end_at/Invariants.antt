use Rattle.std.proofs.Common.{ℕ, ◌<◌}
use Rattle.wh_timetable.specs.Stays.{stay_at}
use Rattle.wh_resv.specs.Looks.{IsOthers, IsDuring}
use Rattle.wh_resv.proofs.looks.end_at.Given as goal

abbrev pub invariant-loop-stay : goal.invariant-loop-stay
invariant-loop-stay l = (j : ℕ) → j < l.stay-index → IsOthers (stay_at l.stays j) l.except l.cell → IsDuring (stay_at l.stays j) l.time → ⊥
