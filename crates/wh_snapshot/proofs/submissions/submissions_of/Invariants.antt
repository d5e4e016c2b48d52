use Rattle.std.proofs.Common.{◌≡◌, take, map}
use Rattle.std.specs.List.{AllByRecursion}
use Rattle.wh_front.specs.declared.front.Submission.{Submission}
use Rattle.wh_snapshot.specs.Kept.{IsTyped}
use Rattle.wh_snapshot.proofs.submissions.submissions_of.Given as goal

abbrev pub invariant-loop-n : goal.invariant-loop-n
invariant-loop-n l = record {
  callers : map (λ (submission : Submission). submission.caller) l.submissions ≡ take l.n l.callers;
  tasks : map (λ (submission : Submission). submission.task) l.submissions ≡ take l.n l.tasks.tasks;
  typed : AllByRecursion (λ (submission : Submission). IsTyped submission.task) l.submissions;
}
