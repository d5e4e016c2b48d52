use Rattle.std.proofs.Common.{◌≡◌, ℕ, ◌<◌, length, get_or, None}
use Rattle.wh_path.specs.Paths.{cell_at}
use Rattle.wh_intervals.specs.Tasks.{IsSightOver}
use Rattle.wh_detours.specs.Filled.{IsSightFor}
use Rattle.wh_detours.proofs.fields.sights_over.Given as goal

abbrev pub invariant-loop-i : goal.invariant-loop-i
invariant-loop-i l = (length l.all ≡ 9) × ((j : ℕ) → j < l.i → IsSightOver l.grid (get_or l.all j None) (cell_at l.stops j))
    × ((j : ℕ) → j < l.i → IsSightFor (get_or l.kept j None) (get_or l.sights j None) (get_or l.all j None))
