use Rattle.std.proofs.Common.{ℕ, ◌+◌, ◌<◌}
use Rattle.wh_path.specs.Paths.{at}
use Rattle.wh_resv.specs.Calls.{IsVacant}
use Rattle.wh_resv.specs.Others.{MayStep}
use Rattle.wh_judge.proofs.course.goes_free.Given as goal

abbrev pub invariant-loop-k : goal.invariant-loop-k
invariant-loop-k l = record {
  steps : (j : ℕ) → j < l.k → MayStep l.others (at l.path j) (at l.path (j + 1)) j;
  alone : IsVacant l.others.paths (at l.path l.k) l.k;
}
