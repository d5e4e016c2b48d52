use Rattle.std.proofs.Common.{◌≡◌, ◌<◌, ◌∙◌, List, [], Some, None, length, get_or, sym, subst, ap, refl}
use Rattle.std.specs.Prelude.{IfNone, IfSome}
use Rattle.std.proofs.lemmas.List.{get_or_default, length-map}
use Rattle.std.proofs.lemmas.Option.{IfSome_then}
use Rattle.wh_grid.specs.declared.cell.Cell.{Cell}
use Rattle.wh_grid.specs.Grids.{Floor}
use Rattle.wh_field.specs.Fields.{Seeking}
use Rattle.wh_path.specs.Paths.{at, place_of, end, ends}
use Rattle.wh_points.specs.Points.{Site}
use Rattle.wh_tasks.specs.declared.task.Task.{Task}
use Rattle.wh_tasks.specs.declared.task.Load.{Load}
use Rattle.wh_tasks.specs.Loads.{task_of}
use Rattle.wh_tasks.specs.Choice.{NoneEligible, IsNearest}
use Rattle.wh_core.specs.States.{load_of}
use Rattle.wh_core.specs.Steps.{IsNext, other_ends}
use Rattle.wh_state.proofs.StandingLemmas.{ends-others}
use Rattle.wh_book.proofs.Straying.{next-own, no-load, none-next, next-nearest}
use Rattle.wh_book.proofs.choice.next_task.Goals as goal

pub nearest-requires : goal.nearest-requires
nearest-requires c = rw (c.tasks.ensures.ends, length-map c.args.floor.now.state.paths end) c.requires

pub returns-in-Some-clause-next : goal.returns-in-Some-clause-next
returns-in-Some-clause-next c = λ site same.
    let s = c.args.floor.now.state in
    let told : task_of (load_of s c.args.agent) ≡ Some c.in-Some.own = ap (λ (loads : List Load). task_of (get_or loads c.args.agent Load.None)) (sym c.loads.ensures.value) ∙ sym c.task.ensures ∙ c.in-Some.is in
    let each : length s.loads ≡ length s.paths = ap length (sym c.loads.ensures.value) ∙ c.loads.ensures.each in
    next-own site s c.args.agent c.in-Some.own c.loads.ensures.tied (rw each c.requires) told

pub returns-in-None-clause-none : goal.returns-in-None-clause-none
returns-in-None-clause-none c =
    let s = c.args.floor.now.state in
    let told : task_of (load_of s c.args.agent) ≡ None = ap (λ (loads : List Load). task_of (get_or loads c.args.agent Load.None)) (sym c.loads.ensures.value) ∙ sym c.task.ensures ∙ c.in-None.is in
    let none : IfNone c.nearest.result (NoneEligible s.tasks (other_ends s c.args.agent)) =
    rw (c.tasks.ensures.tasks, c.tasks.ensures.ends, ends-others s.paths (ends s.paths) c.args.agent refl) at c.nearest.ensures.none in
    none-next s c.args.agent c.nearest.result (no-load (load_of s c.args.agent) told) none

pub returns-in-None-clause-next : goal.returns-in-None-clause-next
returns-in-None-clause-next c =
    let s = c.args.floor.now.state in
    let agent = c.args.agent in
    let told : task_of (load_of s c.args.agent) ≡ None = ap (λ (loads : List Load). task_of (get_or loads c.args.agent Load.None)) (sym c.loads.ensures.value) ∙ sym c.task.ensures ∙ c.in-None.is in
    let grid : c.again.new.self.grid ≡ c.args.near.now.grid = ap (λ (f : Seeking). f.grid) c.again.ensures in
    let read = c.index-paths-agent.is ∙ get_or_default c.paths.result.now agent c.index-paths-agent.result [] (rw c.paths.ensures.value c.requires) in
    let here : c.again.new.self.cell ≡ place_of s.paths agent =
    ap (λ (f : Seeking). f.cell) c.again.ensures ∙ c.start.ensures ∙ ap (λ (p : List Cell). at p 0) read ∙ ap (λ (ps : List (List Cell)). place_of ps agent) c.paths.ensures.value in
    let near = rw (grid, here, c.tasks.ensures.tasks, c.tasks.ensures.ends, ends-others s.paths (ends s.paths) agent refl) at c.nearest.ensures.nearest in
    IfSome_then c.nearest.result near (λ n found site same. (
      found.0,
      next-nearest site s agent n found.0 (no-load (load_of s agent) told)
          (subst (λ (g : Floor). IsNearest g s.tasks (other_ends s agent) (place_of s.paths agent) n found.0) (sym same) found.1),
    ))
