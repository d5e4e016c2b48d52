use Rattle.std.proofs.Common.{◌≡◌, ℕ, ◌<◌, length, get_or, None, Some, IsSomeAnd}
use Rattle.wh_path.specs.Paths.{cell_at}
use Rattle.wh_search.specs.Sights.{IsSightAt}
use Rattle.wh_shared.specs.Shares.{stored_grid}
use Rattle.wh_planners.specs.Sharing.{IsFilled}
use Rattle.wh_planners.proofs.deliver.sights_of.Given as goal

abbrev pub invariant-loop-i : goal.invariant-loop-i
invariant-loop-i l = (length l.sights ≡ 9) × ((j : ℕ) → j < l.i → IsSightAt (stored_grid l.store) (get_or l.sights j None) (cell_at l.stops j))
    × ((j : ℕ) → j < l.i → IsFilled l.store (cell_at l.stops j) (get_or l.levels j None) → IsSomeAnd (get_or l.sights j None) (λ s. get_or l.levels j None ≡ Some s.level))
