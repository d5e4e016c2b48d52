use Rattle.std.proofs.Common.{ℕ, ◌+◌, ◌<◌}
use Rattle.wh_grid.specs.Grids.{IsMove}
use Rattle.wh_path.specs.Paths.{at}
use Rattle.wh_stand.proofs.motion.moves.Given as goal

abbrev pub invariant-loop-k : goal.invariant-loop-k
invariant-loop-k l = (j : ℕ) → j < l.k → IsMove (at l.path j) (at l.path (j + 1))
