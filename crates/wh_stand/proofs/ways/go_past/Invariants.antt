use Rattle.std.proofs.Common.{◌≡◌, ℕ, ◌<◌, ◌≤◌, length}
use Rattle.wh_path.specs.Paths.{cell_at}
use Rattle.wh_stand.proofs.ways.go_past.Given as goal

abbrev pub invariant-loop-i : goal.invariant-loop-i
invariant-loop-i l = (l.before ≤ l.i) × (l.i ≤ length l.stops) × ((j : ℕ) → l.before ≤ j → j < l.i → cell_at l.stops j ≡ l.here)
