use Rattle.std.proofs.Common.{ℕ, ◌<◌, ◌≢◌}
use Rattle.wh_path.specs.Paths.{path_of, IsFree}
use Rattle.wh_judge.proofs.course.free_of_each.Given as goal

abbrev pub invariant-loop-i : goal.invariant-loop-i
invariant-loop-i l = (j : ℕ) → j < l.i → j ≢ l.agent → IsFree l.nofollow l.path (path_of l.paths j)
