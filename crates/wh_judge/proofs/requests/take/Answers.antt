use Rattle.std.proofs.Common.{◌≡◌, ◌∙◌, sym, ap, subst}
use Rattle.std.proofs.lemmas.Option.{same_Some}
use Rattle.wh_tasks.specs.declared.task.Task.{Task}
use Rattle.wh_tasks.specs.Tasks.{IsTask}
use Rattle.wh_core.specs.States.{State, arrived, adopted, assigned, load_of}
use Rattle.wh_core.specs.Steps.{IsDue}
use Rattle.wh_core.proofs.Determined.{next-there}
use Rattle.wh_judge.specs.Judged.{IsReachable}
use Rattle.wh_judge.proofs.Reachable.{has-start}
use Rattle.wh_judge.proofs.Taking.{MayTake}
use Rattle.wh_judge.proofs.requests.take.Goals as goal

pub may_take-requires-clause-home : goal.may_take-requires-clause-home
may_take-requires-clause-home c =
    let due = c.is_due.ensures.0 c.if-not-is_due.false in
    has-start c.args.instance.now c.args.floor.now.state c.args.agent c.requires.reached due.known.known

pub start-requires-clause-reached : goal.start-requires-clause-reached
start-requires-clause-reached c =
    subst (λ (s : State). IsReachable c.args.instance.now s) (sym (λ i. (c.reserve_path.ensures.same i).state)) c.requires.reached

pub start-requires-clause-due : goal.start-requires-clause-due
start-requires-clause-due c =
    subst (λ (s : State). IsDue c.args.instance.now s c.args.agent) (sym (λ i. (c.reserve_path.ensures.same i).state)) (c.is_due.ensures.0 c.if-not-is_due.false)

pub start-requires-clause-takes : goal.start-requires-clause-takes
start-requires-clause-takes c =
    subst (λ (s : State). MayTake c.args.instance.now s c.args.agent c.args.n c.args.path) (sym (λ i. (c.reserve_path.ensures.same i).state)) (c.may_take.ensures.takes.0 c.if-not-may_take.false)

pub returns-clause-answer : goal.returns-clause-answer
returns-clause-answer c =
    let s = c.args.floor.now.state in
    let site = c.args.instance.now in
    let due = c.is_due.ensures.0 c.if-not-is_due.false in
    let t = c.may_take.ensures.takes.0 c.if-not-may_take.false in
    let taken = subst (λ (old : State). (task : Task) × IsTask old.tasks c.args.n task × (c.start.new.floor.state ≡ arrived (adopted c.args.agent c.args.path (assigned c.args.agent c.args.n task old)))) (λ i. (c.reserve_path.ensures.same i).state) c.start.ensures in
    let same : taken.0 ≡ t.0 = same_Some taken.0 t.0 (sym taken.1 ∙ next-there site s c.args.agent c.args.n t.0 (load_of s c.args.agent) t.1) in
    (due, (t.0, t.1, t.2, taken.2 ∙ ap (λ (task : Task). arrived (adopted c.args.agent c.args.path (assigned c.args.agent c.args.n task s))) same))
