use Rattle.std.proofs.Common.{ℕ, ◌<◌}
use Rattle.wh_grid.specs.Grids.{IsPassable}
use Rattle.wh_path.specs.Paths.{at}
use Rattle.wh_stand.proofs.motion.first_blocked.Given as goal

abbrev pub invariant-loop-k : goal.invariant-loop-k
invariant-loop-k l = (j : ℕ) → j < l.k → IsPassable l.grid (at l.path j)
