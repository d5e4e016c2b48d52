use Rattle.std.proofs.Common.{◌≡◌, ℕ, ◌<◌, ◌≤◌, ◌⊎◌}
use Rattle.wh_timetable.specs.Stays.{stay_at}
use Rattle.wh_resv.specs.Looks.{IsOthers}
use Rattle.wh_resv.proofs.looks.last_end.Given as goal

abbrev pub invariant-loop-stay : goal.invariant-loop-stay
invariant-loop-stay l = record {
  most : (j : ℕ) → j < l.stay-index → IsOthers (stay_at l.stays j) l.except l.cell → (stay_at l.stays j).until ≤ l.end;
  one : (l.end ≡ 0) ⊎ ((j : ℕ) × (j < l.stay-index) × IsOthers (stay_at l.stays j) l.except l.cell × ((stay_at l.stays j).until ≡ l.end));
}
