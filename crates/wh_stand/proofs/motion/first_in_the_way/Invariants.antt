use Rattle.std.proofs.Common.{ℕ, ◌<◌}
use Rattle.wh_path.specs.Paths.{path_of, IsFree}
use Rattle.wh_stand.proofs.motion.first_in_the_way.Given as goal

abbrev pub invariant-loop-i : goal.invariant-loop-i
invariant-loop-i l = (j : ℕ) → j < l.i → IsFree l.nofollow l.path (path_of l.paths j)
