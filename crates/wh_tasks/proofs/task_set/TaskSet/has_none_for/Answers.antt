use Rattle.std.proofs.Common.{◌≡◌, ◌∙◌, ap, sym, subst, length, remove, eqb-true}
use Rattle.wh_tasks.specs.Sets.{Stored}
use Rattle.wh_tasks.specs.Bars.{AreBars}
use Rattle.wh_tasks.proofs.Nearby.{none-passes, others-of-agent}
use Rattle.wh_tasks.proofs.task_set.TaskSet.has_none_for.Goals as goal

pub returns-then-is_empty-clause-none : goal.returns-then-is_empty-clause-none
returns-then-is_empty-clause-none c away =
    let s = c.self.inside in
    let tasks = c.args.self.now.tasks in
    let ends = c.args.self.now.ends in
    let own = c.end.result in
    let are : AreBars tasks ends s.bars.items s.clear.members = subst (λ (v : Stored). AreBars v.tasks v.ends s.bars.items s.clear.members) c.self.view_is c.self.invariant.0.bars_are in
    let empty : length s.clear.members ≡ 0 = rw c.as_slice.ensures at (eqb-true (length c.as_slice.result.now) 0 (sym c.is_empty.ensures ∙ c.if-is_empty.true)) in
    none-passes tasks ends (remove ends c.args.agent) s.bars.items s.clear.members own are empty (λ some. (let yes = c.stops_at.ensures.stop.1 some in let no = rw yes at away in cc))
    (others-of-agent ends c.args.agent own c.requires (rw (ap (λ v. v.ends) c.self.view_is) at c.end.ensures))
