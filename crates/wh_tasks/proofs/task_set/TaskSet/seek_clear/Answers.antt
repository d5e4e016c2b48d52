use Rattle.std.proofs.Common.{◌+◌, get_or, ap, ◌∙◌, subst}
use Rattle.wh_tasks.specs.Sets.{Stored}
use Rattle.wh_tasks.specs.Bars.{AreBars}
use Rattle.wh_tasks.proofs.Nearby.{Any, IsListed, IsChosen, listed-more, listed-all, clear-within, sought-more, sought-same, found-of}
use Rattle.wh_tasks.proofs.task_set.TaskSet.seek_clear.Goals as goal

pub task-requires : goal.task-requires
task-requires g c =
    let tasks_are = ap (λ s. s.tasks) c.self.view_is in
    let s = c.self.inside in
    let within = rw c.as_slice-n-items.ensures at c.loop-n-test.true in
    rw (c.as_slice-n-items.ensures, ← tasks_are) (clear-within s.tasks.items s.ends s.bars.items s.clear.members c.loop-n.n-index c.self.invariant.0.bars_are within)

pub loop-n-preserved : goal.loop-n-preserved
loop-n-preserved g c =
    let kept = c.loop-n.invariant in
    let grid = g.F.Distances.grid c.args.field.now in
    let tasks = c.args.self.now.tasks in
    let numbers = c.as_slice-n-items.result.now in
    let i = c.loop-n.n-index in
    let task = c.task.result.now in
    let now = rw (c.pickup.ensures, kept.grid) at c.seek.ensures.sought in
    rw (c.with-found.ensures.first, c.with-found.ensures.last) (record {
      grid = c.seek.ensures.grid ∙ kept.grid;
      source = c.seek.ensures.source ∙ kept.source;
      holds = sought-more grid (IsListed tasks numbers Any i) (IsListed tasks numbers Any (i + 1)) (g.F.Distances.sought c.loop-n.field) (g.F.Distances.sought c.seek.new.self) c.loop-n.found.first c.loop-n.found.last (get_or numbers i 0) task
          (listed-more tasks numbers Any i task c.loop-n-test.true c.task.ensures.task tt) now kept.holds;
    })

pub returns-clause-found : goal.returns-clause-found
returns-clause-found g c =
    let grid = g.F.Distances.grid c.args.field.now in
    let s = c.self.inside in
    let tasks = c.args.self.now.tasks in
    let ends = c.args.self.now.ends in
    let numbers = c.as_slice-n-items.result.now in
    let sought = g.F.Distances.sought c.loop-n.field in
    let are : AreBars tasks ends s.bars.items numbers = rw c.as_slice-n-items.ensures (subst (λ (v : Stored). AreBars v.tasks v.ends s.bars.items s.clear.members) c.self.view_is c.self.invariant.0.bars_are) in
    found-of grid tasks ends sought c.loop-n.found.first c.loop-n.found.last
    (sought-same grid (IsListed tasks numbers Any c.loop-n.n-index) (IsChosen tasks ends Any) sought c.loop-n.found.first c.loop-n.found.last
    (listed-all tasks ends s.bars.items numbers Any c.loop-n.n-index are c.loop-n-test.false) c.loop-n.invariant.holds)
