use Rattle.std.proofs.Common.{ℕ, ◌<◌, ◌≤◌}
use Rattle.wh_path.specs.Paths.{cell_at}
use Rattle.wh_timetable.specs.Stays.{IsThere}
use Rattle.wh_timetable.specs.Places.{stays_for, IsLeft}
use Rattle.wh_timetable.proofs.places.leave_all.Given as goal

abbrev pub invariant-loop-cell : goal.invariant-loop-cell
invariant-loop-cell l = record {
  left : IsLeft l.agent l.now l.fn.places l.places;
  gone : (k t : ℕ) → k < l.cell-index → l.now ≤ t → IsThere (stays_for l.places (cell_at l.cells k)) l.agent (cell_at l.cells k) t → ⊥;
}
