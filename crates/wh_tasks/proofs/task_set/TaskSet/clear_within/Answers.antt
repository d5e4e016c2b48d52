use Rattle.std.proofs.Common.{◌+◌, ◌≤◌, get_or, ap, sym, ◌∙◌, subst}
use Rattle.std.specs.Prelude.{IfSome, IfNone, Some}
use Rattle.wh_field.specs.Distances.{IsDistance}
use Rattle.wh_tasks.specs.Tasks.{pickup}
use Rattle.wh_tasks.specs.Firsts.{IsBeyond}
use Rattle.wh_tasks.specs.Sets.{Stored}
use Rattle.wh_tasks.specs.Bars.{AreBars}
use Rattle.wh_tasks.proofs.Nearby.{IsNear, IsListed, IsChosen, field-before, listed-more, listed-skip, listed-all, clear-within, least-more, least-same, within-of, said-some, said-none, not-near}
use Rattle.wh_tasks.proofs.task_set.TaskSet.clear_within.Goals as goal
use Rattle.wh_tasks.proofs.task_set.TaskSet.clear_within.Goals.{then-is_some, else-is_some}

pub task-requires : goal.task-requires
task-requires g c =
    let tasks_are = ap (λ s. s.tasks) c.self.view_is in
    let s = c.self.inside in
    let within = rw c.as_slice-n-items.ensures at c.loop-n-test.true in
    rw (c.as_slice-n-items.ensures, ← tasks_are) (clear-within s.tasks.items s.ends s.bars.items s.clear.members c.loop-n.n-index c.self.invariant.0.bars_are within)

pub loop-n-preserved : goal.loop-n-preserved
loop-n-preserved g c =
    let kept = c.loop-n.invariant in
    let grid = g.F.Distances.grid c.args.field.now in
    let source = g.F.Distances.source c.args.field.now in
    let tasks = c.args.self.now.tasks in
    let numbers = c.as_slice-n-items.result.now in
    let i = c.loop-n.n-index in
    let task = c.task.result.now in
    let limit = c.args.limit in
    let there = c.task.ensures.task in
    let was = IsListed tasks numbers (IsNear grid source limit) i in
    let is = IsListed tasks numbers (IsNear grid source limit) (i + 1) in
    record {
      grid = c.within.ensures.grid ∙ kept.grid;
      source = c.within.ensures.source ∙ kept.source;
      holds = elim c.if-is_some.branch [
        | then-is_some w ↦
            let near : IfSome c.within.result (λ d. IsDistance grid source (pickup task) (Some d) × (d ≤ limit)) =
            field-before (λ f s. IfSome c.within.result (λ d. IsDistance f s (pickup task) (Some d) × (d ≤ limit))) grid _ source _ kept.grid kept.source (rw c.pickup.ensures at c.within.ensures.found) in
            let some = said-some c.within.result (λ d. IsDistance grid source (pickup task) (Some d) × (d ≤ limit)) (sym w.if-is_some.ensures) near in
            rw (w.found-is, w.first_of-found.ensures) (least-more was is c.loop-n.found (get_or numbers i 0) task (listed-more tasks numbers (IsNear grid source limit) i task c.loop-n-test.true there (some.0, some.1.0, some.1.1)) kept.holds)
        | else-is_some w ↦
            let farther : IfNone c.within.result (IsBeyond grid source limit task) =
            field-before (λ f s. IfNone c.within.result (IsBeyond f s limit task)) grid _ source _ kept.grid kept.source (rw c.pickup.ensures at c.within.ensures.farther) in
            let beyond = said-none c.within.result (IsBeyond grid source limit task) (sym w.if-is_some.ensures) farther in
            rw w.found-is (least-same was is c.loop-n.found (listed-skip tasks numbers (IsNear grid source limit) i task there (not-near grid source limit task beyond)) kept.holds)
      ];
    }

pub returns-clause-found : goal.returns-clause-found
returns-clause-found g c =
    let grid = g.F.Distances.grid c.args.field.now in
    let source = g.F.Distances.source c.args.field.now in
    let s = c.self.inside in
    let tasks = c.args.self.now.tasks in
    let ends = c.args.self.now.ends in
    let numbers = c.as_slice-n-items.result.now in
    let Near = IsNear grid source c.args.limit in
    let are : AreBars tasks ends s.bars.items numbers = rw c.as_slice-n-items.ensures (subst (λ (v : Stored). AreBars v.tasks v.ends s.bars.items s.clear.members) c.self.view_is c.self.invariant.0.bars_are) in
    within-of grid tasks ends source c.args.limit c.loop-n.found
    (least-same (IsListed tasks numbers Near c.loop-n.n-index) (IsChosen tasks ends Near) c.loop-n.found
    (listed-all tasks ends s.bars.items numbers Near c.loop-n.n-index are c.loop-n-test.false) c.loop-n.invariant.holds)
