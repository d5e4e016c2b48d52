use Rattle.std.proofs.Common.{ℕ, ◌<◌}
use Rattle.std.specs.Prelude.{slice_index_or}
use Rattle.wh_log.specs.Logs.{IsSlots}
use Rattle.wh_resume.proofs.looking.first_odd.Given as goal

abbrev pub invariant-loop-i : goal.invariant-loop-i
invariant-loop-i l = (other : ℕ) → other < l.i → IsSlots (slice_index_or l.slots other 0)
