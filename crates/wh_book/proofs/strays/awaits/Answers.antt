use Rattle.std.proofs.Common.{◌≡◌, ◌<◌, List, Some, None, length, get_or, sym, ap, subst, ◌∙◌}
use Rattle.std.proofs.lemmas.Bool.{false≢true}
use Rattle.wh_grid.specs.declared.cell.Cell.{Cell}
use Rattle.wh_tasks.specs.declared.task.Task.{Task}
use Rattle.wh_tasks.specs.declared.task.Load.{Load}
use Rattle.wh_tasks.specs.Loads.{task_of}
use Rattle.wh_tasks.specs.Tasks.{IsTask, stops_left}
use Rattle.wh_core.specs.States.{load_of}
use Rattle.wh_core.specs.Steps.{IsOwn}
use Rattle.wh_stand.specs.Ways.{site_at}
use Rattle.wh_stand.proofs.Strays.{own_of, path_seen, task_seen, task_known}
use Rattle.wh_book.proofs.Straying.{has_left, awaits-none, awaits-its, awaits-by}
use Rattle.wh_book.proofs.strays.awaits.Goals as goal

pub returns-in_default : goal.returns-in_default
returns-in_default c = λ grid.
    let s = c.args.floor.now.state in
    let told : task_of (load_of s c.args.agent) ≡ None = ap (λ (loads : List Load). task_of (get_or loads c.args.agent Load.None)) (sym c.loads.ensures.value) ∙ sym c.task.ensures ∙ c.in_default.is in (
      λ yes. absurd (false≢true yes),
      λ a. absurd (awaits-none (site_at grid c.args.points.now c.args.homes) (site_at c.requires.begins.0 c.args.points.now c.args.homes) s c.args.agent c.args.cell c.requires.begins.1.sound c.requires.known told a),
    )

pub task-task-requires : goal.task-task-requires
task-task-requires c =
    let s = c.args.floor.now.state in
    let site = site_at c.requires.begins.0 c.args.points.now c.args.homes in
    let told : task_of (load_of s c.args.agent) ≡ Some c.in-Some.n = ap (λ (loads : List Load). task_of (get_or loads c.args.agent Load.None)) (sym c.loads.ensures.value) ∙ sym c.task.ensures ∙ c.in-Some.is in
    let own = own_of site s c.args.agent c.in-Some.n c.requires.begins.1.sound c.requires.known told in
    rw c.tasks.ensures.tasks (task_known s.tasks c.in-Some.n own.0 own.1.there)

pub returns-then-contains : goal.returns-then-contains
returns-then-contains c = λ grid.
    let s = c.args.floor.now.state in
    let site = site_at grid c.args.points.now c.args.homes in
    let other = site_at c.requires.begins.0 c.args.points.now c.args.homes in
    let sound = c.requires.begins.1.sound in
    let read = c.task-task.result.now in
    let told : task_of (load_of s c.args.agent) ≡ Some c.in-Some.n = ap (λ (loads : List Load). task_of (get_or loads c.args.agent Load.None)) (sym c.loads.ensures.value) ∙ sym c.task.ensures ∙ c.in-Some.is in
    let own = own_of other s c.args.agent c.in-Some.n sound c.requires.known told in
    let there : IsTask s.tasks c.in-Some.n read = rw (← c.tasks.ensures.tasks) c.task-task.ensures.task in
    let same = task_seen s.tasks c.in-Some.n own.0 read own.1.there there in
    let its : IsOwn s c.args.agent c.in-Some.n read = subst (λ (t : Task). IsOwn s c.args.agent c.in-Some.n t) same own.1 in
    let path = path_seen s.paths c.paths.result.now c.args.agent c.index-paths-agent.result c.requires.known c.paths.ensures.value c.index-paths-agent.is in
    let left = (has_left read c.as_slice.result.now c.as_slice-2.result.now c.args.cell c.contains.result c.as_slice.ensures.value c.as_slice-2.ensures.value c.contains.ensures.cases).0 c.if-contains.true in
    awaits-by site other s c.args.agent c.in-Some.n read c.index-paths-agent.result c.args.cell c.leads_on.result sound its path c.leads_on.ensures left

pub returns-else-contains : goal.returns-else-contains
returns-else-contains c = λ grid.
    let s = c.args.floor.now.state in
    let site = site_at grid c.args.points.now c.args.homes in
    let other = site_at c.requires.begins.0 c.args.points.now c.args.homes in
    let sound = c.requires.begins.1.sound in
    let read = c.task-task.result.now in
    let told : task_of (load_of s c.args.agent) ≡ Some c.in-Some.n = ap (λ (loads : List Load). task_of (get_or loads c.args.agent Load.None)) (sym c.loads.ensures.value) ∙ sym c.task.ensures ∙ c.in-Some.is in
    let own = own_of other s c.args.agent c.in-Some.n sound c.requires.known told in
    let there : IsTask s.tasks c.in-Some.n read = rw (← c.tasks.ensures.tasks) c.task-task.ensures.task in
    let same = task_seen s.tasks c.in-Some.n own.0 read own.1.there there in
    let its : IsOwn s c.args.agent c.in-Some.n read = subst (λ (t : Task). IsOwn s c.args.agent c.in-Some.n t) same own.1 in
    let has = has_left read c.as_slice.result.now c.as_slice-2.result.now c.args.cell c.contains.result c.as_slice.ensures.value c.as_slice-2.ensures.value c.contains.ensures.cases in (
      λ yes. absurd (false≢true (sym c.if-contains.false ∙ yes)),
      λ a. has.1 (awaits-its site other s c.args.agent c.in-Some.n read c.args.cell sound its a).1,
    )
