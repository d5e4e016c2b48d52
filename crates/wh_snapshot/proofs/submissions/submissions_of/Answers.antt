use Rattle.std.proofs.Common.{◌≡◌, ◌<◌, ◌++◌, ◌∷◌, [], length, sym, ap, subst, arith}
use Rattle.wh_front.specs.declared.front.Submission.{Submission}
use Rattle.wh_tasks.specs.declared.task.Task.{Task}
use Rattle.wh_tasks.specs.Tasks.{IsTask}
use Rattle.wh_snapshot.specs.Kept.{IsTyped}
use Rattle.wh_snapshot.proofs.Columns.{caller_more, task_more, typed_more}
use Rattle.wh_snapshot.proofs.submissions.submissions_of.Goals as goal

pub loop-n-preserved : goal.loop-n-preserved
loop-n-preserved c =
    let test = c.loop-n-test.true in
    let count = c.len-n-end.ensures.count in
    let each = c.requires.each in
    let there : c.loop-n.n < length c.args.tasks.now.tasks = omega (arith, test, count) in
    let named : c.loop-n.n < length c.args.callers.now = omega (arith, there, each) in
    let s : Submission = c.submission_of-submission.result in
    let task : s.task ≡ c.task.result.now = ap (λ (t : Submission). t.task) c.submission_of-submission.ensures.value in
    let pushed : c.push.new.self ≡ c.loop-n.submissions ++ s ∷ [] = c.in_ok-push.ensures.ok in
    record {
      callers = caller_more c.loop-n.submissions c.push.new.self s c.args.callers.now c.loop-n.n named (ap (λ (t : Submission). t.caller) c.submission_of-submission.ensures.value) c.loop-n.invariant.callers pushed;
      tasks = task_more c.loop-n.submissions c.push.new.self s c.args.tasks.now.tasks c.loop-n.n there
          (subst (λ (t : Task). IsTask c.args.tasks.now.tasks c.loop-n.n t) (sym task) c.task.ensures.task) c.loop-n.invariant.tasks pushed;
      typed = typed_more c.loop-n.submissions c.push.new.self s c.loop-n.invariant.typed (subst IsTyped (sym task) c.submission_of-submission.ensures.typed) pushed;
    }
