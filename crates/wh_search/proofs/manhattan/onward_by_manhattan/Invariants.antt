use Rattle.std.proofs.Common.{◌≡◌, ℕ, ◌+◌, ◌<◌, ◌≤◌, length, get_or}
use Rattle.wh_path.specs.Paths.{cell_at}
use Rattle.wh_search.specs.Manhattan.{manhattan_estimate}
use Rattle.wh_search.proofs.manhattan.onward_by_manhattan.Given as goal

abbrev pub invariant-loop-done : goal.invariant-loop-done
invariant-loop-done l = (length l.onward.items ≡ length l.stops) × ((i : ℕ) → i + 1 ≡ length l.stops → get_or l.onward.items i 0 ≡ 0)
    × ((i : ℕ) → i + 1 < length l.stops → length l.stops ≤ i + l.done → get_or l.onward.items i 0 ≡ manhattan_estimate l.stops l.onward.items (i + 1) (cell_at l.stops i))
