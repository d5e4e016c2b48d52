-- an agent that takes its next task
use Rattle.std.proofs.Common.{◌≡◌, ℕ, ◌∙◌, List, Bool, Some, length, slice_get, sym, subst}
use Rattle.std.specs.Prelude.{◌↔◌, IsTrue}
use Rattle.std.proofs.lemmas.Option.{get_or_from_slice_get, same_Some}
use Rattle.wh_grid.specs.declared.cell.Cell.{Cell}
use Rattle.wh_path.specs.Paths.{place_of}
use Rattle.wh_points.specs.Points.{Site}
use Rattle.wh_tasks.specs.declared.task.Load.{Load}
use Rattle.wh_tasks.specs.declared.task.Task.{Task}
use Rattle.wh_tasks.specs.Choice.{IsNearest}
use Rattle.wh_tasks.specs.Tasks.{IsTask, IsOpen, stops_left}
use Rattle.wh_planner.specs.Duties.{Delivers, IsLawful}
use Rattle.wh_core.specs.States.{State, load_of}
use Rattle.wh_core.specs.Steps.{IsNext, IsNextBy, other_ends, tour}
use Rattle.wh_core.proofs.Determined.{next-there}
use Rattle.wh_judge.proofs.Courses.{course-from, lawful-from}

-- the agent may take the task lawfully by the path
abbrev Lawfully : Site → State → ℕ → Task → List Cell → Type 0
Lawfully site s agent task path =
    IsLawful site.grid site.layout.nofollow s.paths agent (length (tour site agent task.stops)) (Delivers (tour site agent (stops_left task))) path

-- it is its next, and has this number
abbrev pub MayTake : Site → State → ℕ → ℕ → List Cell → Type 0
MayTake site s agent n path = (task : Task) × IsNext site s agent n task × Lawfully site s agent task path

-- stops that ask for the same paths tell whether a path is lawful
pub takes-iff : (site : Site) (s : State) (agent n legs : ℕ) (task : Task) (stops path : List Cell) (b : Bool) → IsTask s.tasks n task → ((next : Task) × IsNext site s agent n next) →
    legs ≡ length (tour site agent task.stops) → ((p : List Cell) → Delivers stops p ↔ Delivers (tour site agent (stops_left task)) p) →
    (IsTrue b ↔ IsLawful site.grid site.layout.nofollow s.paths agent legs (Delivers stops) path) → IsTrue b ↔ MayTake site s agent n path
takes-iff site s agent n legs task stops path b there next count same iff =
    let g = site.grid in
    let rule = site.layout.nofollow in
    let Left : List Cell → Type 0 = Delivers (tour site agent (stops_left task)) in
    let long = length (tour site agent task.stops) in
    let is : (other : Task) → IsNext site s agent n other → other ≡ task = λ other at_it.
    same_Some other task (sym (next-there site s agent n other (load_of s agent) at_it) ∙ there) in (
      λ t.
          let lawful = iff.0 t in
          let course = course-from g rule s.paths agent legs (Delivers stops) path lawful in
          let wide = subst (λ k. IsLawful g rule s.paths agent k (λ p. Unit {0}) path) count course in (
            task,
            subst (λ (x : Task). IsNext site s agent n x) (is next.0 next.1) next.1,
            lawful-from g rule s.paths agent long Left path wide ((same path).0 lawful.serves),
          ),
      λ takes.
          let lawful = subst (λ (x : Task). Lawfully site s agent x path) (is takes.0 takes.1) takes.2 in
          let course = course-from g rule s.paths agent long Left path lawful in
          let narrow = subst (λ k. IsLawful g rule s.paths agent k (λ p. Unit {0}) path) (sym count) course in
          iff.1 (lawful-from g rule s.paths agent legs (Delivers stops) path narrow ((same path).1 lawful.serves)),
    )

-- who has no load takes an open task
pub open-next : (site : Site) (s : State) (agent n : ℕ) (task : Task) → slice_get s.loads agent ≡ Some Load.None → IsNext site s agent n task →
    (job : Task) × IsTask s.tasks n job × IsOpen job
open-next site s agent n task none next =
    let is : load_of s agent ≡ Load.None = get_or_from_slice_get s.loads agent Load.None Load.None none in
    let nearest : IsNearest site.grid s.tasks (other_ends s agent) (place_of s.paths agent) n task =
    subst (λ load. IsNextBy load site s agent n task) is next in
    (task, nearest.eligible.there, nearest.eligible.is_open)
