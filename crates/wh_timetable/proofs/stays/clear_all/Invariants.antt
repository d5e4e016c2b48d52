use Rattle.std.proofs.Common.{◌≡◌, ℕ, ◌<◌, [], get_or}
use Rattle.wh_timetable.proofs.stays.clear_all.Given as goal

abbrev pub invariant-loop-stays : goal.invariant-loop-stays
invariant-loop-stays l = (p : ℕ) → p < l.stays-index → get_or l.places p [] ≡ []
