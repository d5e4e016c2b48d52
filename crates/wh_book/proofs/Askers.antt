-- what the book knows of an agent that asks, and of the site as the parts of its setting tell it
use Rattle.std.proofs.Common.{◌≡◌, ℕ, ◌<◌, ◌≤◌, Option, None, Some, Result, Ok, Err, false, true, length, sym, subst, ◌∙◌}
use Rattle.std.specs.Prelude.{is_some, IfNone, IfSome, IfOk}
use Rattle.std.proofs.lemmas.Option.{same_Some}
use Rattle.wh_grid.specs.Grids.{Floor}
use Rattle.wh_path.specs.Paths.{end_of}
use Rattle.wh_points.specs.Points.{Site}
use Rattle.wh_tasks.specs.declared.task.Task.{Task}
use Rattle.wh_tasks.specs.declared.task.Load.{Load}
use Rattle.wh_tasks.specs.Tasks.{IsTask, visited}
use Rattle.wh_tasks.specs.Choice.{NoneEligible}
use Rattle.wh_core.specs.States.{State, load_of}
use Rattle.wh_core.specs.Steps.{IsDue, IsNext, IsNextBy, NoneIsNext, IsDeliveryCell, IsRestCell, other_ends}
use Rattle.wh_core.specs.Laws.{IsSound, IsOnItsWay, AllOnTheirWays}
use Rattle.wh_core.proofs.Work.{IsKept}
use Rattle.wh_core.proofs.Sound.{kept-of, ways-unloaded, open-more}
use Rattle.wh_core.proofs.Ways.{end-berth}
use Rattle.wh_stand.specs.Ways.{site_at}
use Rattle.wh_book.proofs.OnTheirWays.{not-wanted}

-- what holds where there is none
pub if-none : {X : Type 0} (o : Option X) (A : Type 0) → is_some o ≡ false → IfNone o A → A
if-none None A none holds = holds
if-none (Some x) A none holds = absurd (let clash : true ≡ false = none in cc)

pub none-of : {X : Type 0} (o : Option X) (A B : Type 0) → (A → B) → IfNone o A → IfNone o B
none-of None A B f holds = f holds
none-of (Some x) A B f holds = holds

pub if-some : {X : Type 0} (o : Option X) (P Q : X → Type 0) → ((x : X) → P x → Q x) → IfSome o P → IfSome o Q
if-some None P Q f holds = holds
if-some (Some x) P Q f holds = f x holds

pub if-ok : {X E : Type 0} (r : Result X E) (P Q : X → Type 0) → ((x : X) → P x → Q x) → IfOk r P → IfOk r Q
if-ok (Ok x) P Q f holds = f x holds
if-ok (Err e) P Q f holds = holds

-- whether an agent is on its way no grid tells
pub way-at : (site : Site) (s : State) (grid : Floor) (agent : ℕ) → IsOnItsWay site s agent → IsOnItsWay (site_at grid site.layout site.homes) s agent
way-at site s grid agent way = record { berth = record { point = way.berth.point; own = way.berth.own }; delivers = way.delivers }

-- where all are on their ways, a due agent that may take no task and is in nobody's way rests
pub none-at_once : (site : Site) (s : State) (agent : ℕ) → IsSound site s → AllOnTheirWays site s → IsDue site s agent →
    NoneEligible s.tasks (other_ends s agent) → NoneIsNext s agent
none-at_once site s agent sound on_ways due none = (ways-unloaded site s agent (kept-of site s sound) on_ways due, none)

pub rests-at_once : (site : Site) (s : State) (agent : ℕ) → IsSound site s → AllOnTheirWays site s → IsDue site s agent →
    ¬ IsDeliveryCell s (end_of s.paths agent) → IsRestCell site s agent (end_of s.paths agent)
rests-at_once site s agent sound on_ways due free = record {
  berth = end-berth site s agent on_ways due;
  not_wanted = not-wanted site s (end_of s.paths agent) (kept-of site s sound) on_ways (λ _. free);
}

-- of the next task a stop is left, and it has 2 to 8
pub record IsToDo (s : State) (n : ℕ) (task : Task) : Type 0 where
  pub there : IsTask s.tasks n task
  pub left : visited task < length task.stops
  pub two : 2 ≤ length task.stops
  pub eight : length task.stops ≤ 8

to_do : (site : Site) (s : State) (n : ℕ) (task : Task) → IsSound site s → IsTask s.tasks n task → visited task < length task.stops → IsToDo s n task
to_do site s n task sound there left =
    let stops = (sound.tasks n task there).stops in
    record { there = there; left = left; two = stops.count; eight = stops.few }

next-by : (site : Site) (s : State) (agent n : ℕ) (task : Task) (load : Load) → IsSound site s → IsNextBy load site s agent n task → IsToDo s n task
next-by site s agent n task Load.None sound next =
    to_do site s n task sound next.eligible.there (open-more site s n task (kept-of site s sound) next.eligible.there next.eligible.is_open)
next-by site s agent n task (Load.Fetching m) sound next = to_do site s n task sound next.1.there next.1.left
next-by site s agent n task (Load.Carrying m seen) sound next = to_do site s n task sound next.1.there next.1.left

pub next-to_do : (site : Site) (s : State) (agent n : ℕ) (task : Task) → IsSound site s → IsNext site s agent n task → IsToDo s n task
next-to_do site s agent n task sound next = next-by site s agent n task (load_of s agent) sound next

-- which is so of the task that stands at that number
pub same-to_do : (site : Site) (s : State) (agent n : ℕ) (task job : Task) → IsSound site s → IsNext site s agent n task → IsTask s.tasks n job → IsToDo s n job
same-to_do site s agent n task job sound next is =
    let left = next-to_do site s agent n task sound next in
    subst (λ t. IsToDo s n t) (same_Some task job (sym left.there ∙ is)) left
