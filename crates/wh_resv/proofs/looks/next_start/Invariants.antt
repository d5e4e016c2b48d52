use Rattle.std.proofs.Common.{◌≡◌, ℕ, ◌<◌, ◌≤◌, ◌⊎◌}
use Rattle.wh_timetable.specs.Stays.{stay_at, endless}
use Rattle.wh_resv.specs.Looks.{IsOthers}
use Rattle.wh_resv.proofs.looks.next_start.Given as goal

abbrev pub invariant-loop-stay : goal.invariant-loop-stay
invariant-loop-stay l = record {
  least : (j : ℕ) → j < l.stay-index → IsOthers (stay_at l.stays j) l.except l.cell → l.time < (stay_at l.stays j).from → l.start ≤ (stay_at l.stays j).from;
  bound : l.start ≤ endless;
  one : (l.start ≡ endless) ⊎ ((j : ℕ) × (j < l.stay-index) × IsOthers (stay_at l.stays j) l.except l.cell × (l.time < l.start) × ((stay_at l.stays j).from ≡ l.start));
}
