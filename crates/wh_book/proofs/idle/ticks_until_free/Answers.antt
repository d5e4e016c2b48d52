use Rattle.std.proofs.Common.{◌≡◌, ◌-◌, ◌∙◌, [], Some, List, length, drop, get_or, sym, ap, subst, take}
use Rattle.std.specs.Prelude.{slice_get}
use Rattle.std.proofs.lemmas.List.{get_or_default, take_rest}
use Rattle.std.proofs.lemmas.Option.{slice_get_within, same_Some}
use Rattle.wh_grid.specs.declared.cell.Cell.{Cell}
use Rattle.wh_path.specs.Paths.{path_of}
use Rattle.wh_tasks.specs.declared.task.Load.{Load}
use Rattle.wh_tasks.specs.Tasks.{stops_left}
use Rattle.wh_tasks.specs.Loads.{task_of}
use Rattle.wh_core.specs.States.{load_of}
use Rattle.wh_core.specs.Steps.{IsIdleIn}
use Rattle.wh_book.specs.Waiting.{cells_through}
use Rattle.wh_book.proofs.Waiting.{held, through-idle}
use Rattle.wh_book.proofs.idle.ticks_until_free.Goals as goal

pub task-task-requires : goal.task-task-requires
task-task-requires c =
    let s = c.args.floor.now.state in
    let named : task_of (load_of s c.args.agent) ≡ Some c.in-Some.n = ap (λ ls. task_of (get_or ls c.args.agent Load.None)) (sym c.loads.ensures.value) ∙ sym c.task.ensures ∙ c.in-Some.is in
    let holds = held s c.args.agent c.in-Some.n c.loads.ensures.tied named in
    rw c.tasks.ensures.tasks (slice_get_within s.tasks c.in-Some.n holds.0 holds.1.there)

pub returns : goal.returns
returns c = λ site on.
    let s = c.args.floor.now.state in
    let agent = c.args.agent in
    let n = c.in-Some.n in
    let named : task_of (load_of s agent) ≡ Some n = ap (λ ls. task_of (get_or ls agent Load.None)) (sym c.loads.ensures.value) ∙ sym c.task.ensures ∙ c.in-Some.is in
    let holds = held s agent n c.loads.ensures.tied named in
    let task = holds.0 in
    let read : task ≡ c.task-task.result.now = same_Some task c.task-task.result.now (sym holds.1.there ∙ ap (λ ts. slice_get ts n) (sym c.tasks.ensures.tasks) ∙ c.task-task.ensures.task) in
    let cells = c.cells.result.now in
    let stops = c.as_slice.result.now in
    let seen = length c.as_slice-seen.result.now in
    let path : cells ≡ path_of s.paths agent =
    c.cells.ensures.value ∙ c.index-paths-i.is ∙ get_or_default c.paths.result.now agent c.index-paths-i.result [] (rw c.paths.ensures.value c.requires)
    ∙ ap (λ (ps : List (List Cell)). path_of ps agent) c.paths.ensures.value in
    let left : drop seen stops ≡ stops_left task =
    ap (λ ss. drop seen ss) c.as_slice.ensures.value ∙ ap (λ vs. drop (length vs) c.task-task.result.now.stops) c.as_slice-seen.ensures.value ∙ ap stops_left (sym read) in
    let count : c.count_through.result ≡ cells_through (drop 1 cells) (stops_left task) =
    c.count_through.ensures ∙ ap (λ cs. cells_through cs (take (length stops - seen) (drop seen stops))) (take_rest cells 1)
    ∙ ap (cells_through (drop 1 cells)) (take_rest stops seen ∙ left) in
    let idle = through-idle (drop 1 cells) site agent n on s task c.requires (ap (λ p. drop 1 p) (sym path)) holds.1 in
    subst (λ k. IsIdleIn site s agent k) (sym count) idle
