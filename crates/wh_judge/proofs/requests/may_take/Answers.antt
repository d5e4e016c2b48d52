use Rattle.std.proofs.Common.{◌∙◌, length, sym, ap}
use Rattle.std.specs.Prelude.{slice_get}
use Rattle.wh_tasks.specs.Tasks.{IsTask}
use Rattle.wh_core.specs.Steps.{tour}
use Rattle.wh_judge.proofs.Taking.{takes-iff}
use Rattle.wh_judge.proofs.requests.may_take.Goals as goal

pub returns-clause-takes : goal.returns-clause-takes
returns-clause-takes c =
    let site = c.args.instance.now in
    let s = c.args.floor.now.state in
    let agent = c.args.agent in
    let n = c.args.n in
    let task = c.task-task.result.now in
    let there : IsTask s.tasks n task = ap (λ ts. slice_get ts n) (sym c.tasks.ensures.tasks) ∙ c.task-task.ensures.task in
    takes-iff site s agent n c.legs.result task c.tour-tour.result.items c.args.path.now c.may_deliver.result there (c.is_next.ensures.is.0 c.if-not-is_next.false)
    (c.legs.ensures.value agent ∙ ap (λ stops. length (tour site agent stops)) c.as_slice.ensures.value) c.tour-tour.ensures.same
    (rw (c.grid.ensures.value, c.nofollow.ensures, c.timetable.ensures.value, c.as_slice-2.ensures.value) at c.may_deliver.ensures)
