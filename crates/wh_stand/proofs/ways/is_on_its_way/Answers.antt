use Rattle.std.proofs.Common.{◌≡◌, List, Some, None, get_or, refl, sym, ap, subst, ◌∙◌}
use Rattle.std.proofs.lemmas.Bool.{false≢true}
use Rattle.wh_grid.specs.declared.cell.Cell.{Cell}
use Rattle.wh_path.specs.Paths.{path_of, end}
use Rattle.wh_tasks.specs.declared.task.Task.{Task}
use Rattle.wh_tasks.specs.declared.task.Load.{Load}
use Rattle.wh_tasks.specs.Loads.{task_of}
use Rattle.wh_tasks.specs.Tasks.{IsTask, stops_left}
use Rattle.wh_planner.specs.Duties.{Delivers}
use Rattle.wh_core.specs.States.{load_of}
use Rattle.wh_core.specs.Steps.{IsBerth, tour}
use Rattle.wh_stand.specs.Ways.{site_at}
use Rattle.wh_stand.proofs.Strays.{own_of, path_seen, task_seen, task_known, on_with_none, on_with_task}
use Rattle.wh_stand.proofs.ways.is_on_its_way.Goals as goal

pub returns-then-not-is_berth : goal.returns-then-not-is_berth
returns-then-not-is_berth c = λ grid.
    let s = c.args.floor.now.state in
    let site = site_at grid c.args.points.now c.args.homes in
    let path = path_seen s.paths c.paths.result.now c.args.agent c.index-paths-agent.result c.requires.known c.paths.ensures.value c.index-paths-agent.is in
    let ends = c.end.ensures ∙ ap end path in (
      λ yes. absurd (false≢true yes),
      λ on. absurd (false≢true (sym c.if-not-is_berth.true ∙ (c.is_berth.ensures grid).1 (subst (λ x. IsBerth site c.args.agent x) (sym ends) on.berth))),
    )

pub task-requires-in-Some : goal.task-requires-in-Some
task-requires-in-Some c =
    let s = c.args.floor.now.state in
    let site = site_at c.requires.begins.0 c.args.points.now c.args.homes in
    let told : task_of (load_of s c.args.agent) ≡ Some c.in-Some.n = ap (λ (loads : List Load). task_of (get_or loads c.args.agent Load.None)) (sym c.loads.ensures.value) ∙ sym c.task.ensures ∙ c.in-Some.is in
    let own = own_of site s c.args.agent c.in-Some.n c.requires.begins.1.sound c.requires.known told in
    rw c.tasks.ensures.tasks (task_known s.tasks c.in-Some.n own.0 own.1.there)

pub returns-in-None : goal.returns-in-None
returns-in-None c = λ grid.
    let s = c.args.floor.now.state in
    let site = site_at grid c.args.points.now c.args.homes in
    let path = path_seen s.paths c.paths.result.now c.args.agent c.index-paths-agent.result c.requires.known c.paths.ensures.value c.index-paths-agent.is in
    let ends = c.end.ensures ∙ ap end path in
    let told : task_of (load_of s c.args.agent) ≡ None = ap (λ (loads : List Load). task_of (get_or loads c.args.agent Load.None)) (sym c.loads.ensures.value) ∙ sym c.task.ensures ∙ c.in-None.is in (
      λ yes. on_with_none site (site_at c.requires.begins.0 c.args.points.now c.args.homes) s c.args.agent c.requires.begins.1.sound c.requires.known told
          (subst (λ x. IsBerth site c.args.agent x) ends ((c.is_berth.ensures grid).0 c.if-not-is_berth.false)),
      λ on. refl,
    )

pub returns-in-Some : goal.returns-in-Some
returns-in-Some c = λ grid.
    let s = c.args.floor.now.state in
    let site = site_at grid c.args.points.now c.args.homes in
    let other = site_at c.requires.begins.0 c.args.points.now c.args.homes in
    let sound = c.requires.begins.1.sound in
    let path = path_seen s.paths c.paths.result.now c.args.agent c.index-paths-agent.result c.requires.known c.paths.ensures.value c.index-paths-agent.is in
    let ends = c.end.ensures ∙ ap end path in
    let told : task_of (load_of s c.args.agent) ≡ Some c.in-Some.n = ap (λ (loads : List Load). task_of (get_or loads c.args.agent Load.None)) (sym c.loads.ensures.value) ∙ sym c.task.ensures ∙ c.in-Some.is in
    let own = own_of other s c.args.agent c.in-Some.n sound c.requires.known told in
    let there : IsTask s.tasks c.in-Some.n c.task-in-Some.result.now = rw (← c.tasks.ensures.tasks) c.task-in-Some.ensures.task in
    let same = task_seen s.tasks c.in-Some.n c.task-in-Some.result.now own.0 there own.1.there in
    let D : Task → List Cell → Type 0 = λ t p. Delivers (tour site c.args.agent (stops_left t)) p in (
      λ yes. on_with_task site other s c.args.agent c.in-Some.n own.0 sound own.1
          (subst (λ x. IsBerth site c.args.agent x) ends ((c.is_berth.ensures grid).0 c.if-not-is_berth.false))
          (subst (λ t. D t (path_of s.paths c.args.agent)) same (subst (λ p. D c.task-in-Some.result.now p) path (c.leads_on.ensures.0 yes))),
      λ on. c.leads_on.ensures.1 (subst (λ p. D c.task-in-Some.result.now p) (sym path) (subst (λ t. D t (path_of s.paths c.args.agent)) (sym same) (on.delivers c.in-Some.n own.0 own.1))),
    )
