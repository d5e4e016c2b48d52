use Rattle.std.proofs.Common.{◌≡◌, ℕ, ◌<◌, length, get_or, None}
use Rattle.wh_path.specs.Paths.{cell_at}
use Rattle.wh_search.specs.Fields.{IsFieldAt}
use Rattle.wh_intervals.proofs.fresh.lent.Given as goal

abbrev pub invariant-loop-i : goal.invariant-loop-i
invariant-loop-i l = (length l.fields ≡ 9) × ((j : ℕ) → j < l.i → IsFieldAt l.fn.grid (get_or l.fields j None) (cell_at l.fn.stops j))
