use Rattle.std.proofs.Common.{◌≡◌, ◌≤◌, ◌∙◌, List, length, sym, ap, arith}
use Rattle.std.specs.Prelude.{slice_get}
use Rattle.std.proofs.lemmas.Result.{IfOk-weaker}
use Rattle.wh_grid.specs.declared.cell.Cell.{Cell}
use Rattle.wh_path.specs.Paths.{ends, others}
use Rattle.wh_tasks.specs.Tasks.{IsTask}
use Rattle.wh_core.specs.Steps.{other_ends}
use Rattle.wh_judge.proofs.Ways.{can-deliver}
use Rattle.wh_judge.proofs.lacking.has_way.Goals as goal

pub returns : goal.returns
returns c =
    let site = c.args.instance.now in
    let s = c.args.floor.now.state in
    let agent = c.args.agent in
    let n = c.args.n in
    let task = c.task.result.now in
    let there : IsTask s.tasks n task = ap (λ ts. slice_get ts n) (sym c.tasks.ensures.tasks) ∙ c.task.ensures.task in
    let avoid : c.deref.result.now ≡ other_ends s agent =
    c.deref.ensures.value ∙ c.in_ok-avoid.ensures ∙ ap (λ (ps : List (List Cell)). ends (others ps agent)) c.paths.ensures.value in
    let some : 1 ≤ length c.tour-tour.result.items = (let two = c.tour-tour.ensures.two in omega arith) in
    IfOk-weaker c.has_routes.result _ _ (λ b iff. can-deliver site s agent n task c.tour-tour.result.items b there some c.tour-tour.ensures.same iff)
    (rw (c.grid.ensures.value, avoid, c.path_end-from.ensures, c.as_slice.ensures.value) at c.has_routes.ensures)
