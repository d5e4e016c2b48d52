use Rattle.std.proofs.Common.{◌≡◌, ℕ, [], length, get_or}
use Rattle.wh_timetable.proofs.stays.empty_places.Given as goal

abbrev pub invariant-loop-i : goal.invariant-loop-i
invariant-loop-i l = record {
  size : length l.places.items ≡ l.i;
  nothing : (p : ℕ) → get_or l.places.items p [] ≡ [];
}
