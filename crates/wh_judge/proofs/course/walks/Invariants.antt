use Rattle.wh_judge.specs.Courses.{IsWalkBefore}
use Rattle.wh_judge.proofs.course.walks.Given as goal

abbrev pub invariant-loop-k : goal.invariant-loop-k
invariant-loop-k l = IsWalkBefore l.grid l.path l.k
