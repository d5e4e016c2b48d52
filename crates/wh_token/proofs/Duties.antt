-- what is planned for a due agent, in the words of the steps
use Rattle.std.proofs.Common.{◌≡◌, ℕ, ◌≤◌, ◌∙◌, ◌⊎◌, inr, List, Bool, length, sym, subst, arith}
use Rattle.std.proofs.lemmas.Nat.{mul-le}
use Rattle.std.proofs.lemmas.Option.{same_Some}
use Rattle.std.specs.Prelude.{◌↔◌, Result, Ok, Err, IfOk, IfErr}
use Rattle.wh_grid.specs.declared.cell.Cell.{Cell}
use Rattle.wh_grid.specs.Grids.{Floor, passable_cells}
use Rattle.wh_path.specs.Paths.{end_of}
use Rattle.wh_points.specs.Points.{Site}
use Rattle.wh_tasks.specs.declared.task.Task.{Task}
use Rattle.wh_tasks.specs.declared.task.Load.{Load}
use Rattle.wh_tasks.specs.Tasks.{IsTask, stops_left}
use Rattle.wh_planner.specs.Duties.{Delivers, ParksAt, IsLawful, HasNoClearWay}
use Rattle.wh_core.specs.States.{State, load_of}
use Rattle.wh_core.specs.Steps.{Refuses, IsAllowed, IsBerth, IsDue, IsIdleIn, IsKnown, IsNext, IsNextBy, IsStray, IsWanted, MakesWay, tour}
use Rattle.wh_event.specs.declared.reply.Refusal.{Refusal}
use Rattle.wh_event.specs.declared.event.Event.{Event}

-- the task that is next is there
next_by-there : (load : Load) (site : Site) (s : State) (agent n : ℕ) (task : Task) → IsNextBy load site s agent n task → IsTask s.tasks n task
next_by-there Load.None site s agent n task next = next.eligible.there
next_by-there (Load.Fetching m) site s agent n task next = next.1.there
next_by-there (Load.Carrying m seen) site s agent n task next = next.1.there

pub next-there : (site : Site) (s : State) (agent n : ℕ) (task : Task) → IsNext site s agent n task → IsTask s.tasks n task
next-there site s agent n task next = next_by-there (load_of s agent) site s agent n task next

-- the duty to park at one of the cells listed is the duty to park where it is allowed
pub lawful-parking : (g : Floor) (nofollow : Bool) (paths : List (List Cell)) (agent legs : ℕ) (P Q : Cell → Type 0) (path : List Cell) →
    ((cell : Cell) → P cell ↔ Q cell) → IsLawful g nofollow paths agent legs (ParksAt P) path → IsLawful g nofollow paths agent legs (ParksAt Q) path
lawful-parking g nofollow paths agent legs P Q path same lawful = record {
  walk = lawful.walk;
  starts_here = lawful.starts_here;
  free = lawful.free;
  bounded = lawful.bounded;
  serves = (same _).0 lawful.serves;
}

pub no_way-parking : (g : Floor) (paths : List (List Cell)) (agent : ℕ) (P Q : Cell → Type 0) →
    ((cell : Cell) → P cell ↔ Q cell) → HasNoClearWay g paths agent (ParksAt P) → HasNoClearWay g paths agent (ParksAt Q)
no_way-parking g paths agent P Q same none = λ way clear. none way (record {
  walk = clear.walk;
  starts_here = clear.starts_here;
  clear = clear.clear;
  serves = (same _).1 clear.serves;
})

-- the cells are no more than the stops of the task, and home, and ask for the same paths as those that are left
abbrev pub IsTourOf : Site → State → ℕ → ℕ → List Cell → Type 0
IsTourOf site s agent n cells =
    (task : Task) × IsTask s.tasks n task × (length cells ≤ length (tour site agent task.stops))
    × ((path : List Cell) → Delivers cells path ↔ Delivers (tour site agent (stops_left task)) path)

lawful-next : (site : Site) (s : State) (agent n : ℕ) (cells path : List Cell) (next : (task : Task) × IsNext site s agent n task) → IsTourOf site s agent n cells →
    IsLawful site.grid site.layout.nofollow s.paths agent (length cells) (Delivers cells) path →
    IsLawful site.grid site.layout.nofollow s.paths agent (length (tour site agent next.0.stops)) (Delivers (tour site agent (stops_left next.0))) path
lawful-next site s agent n cells path next told lawful =
    let same : told.0 ≡ next.0 = same_Some told.0 next.0 (sym told.1 ∙ next-there site s agent n next.0 next.1) in
    let is : IsLawful site.grid site.layout.nofollow s.paths agent (length (tour site agent told.0.stops)) (Delivers (tour site agent (stops_left told.0))) path =
    record {
      walk = lawful.walk;
      starts_here = lawful.starts_here;
      free = lawful.free;
      bounded = omega (arith, lawful.bounded, mul-le (length cells) (passable_cells site.grid) (length (tour site agent told.0.stops)) (passable_cells site.grid) told.2 (omega arith));
      serves = (told.3 path).0 lawful.serves;
    } in
    subst (λ (task : Task). IsLawful site.grid site.layout.nofollow s.paths agent (length (tour site agent task.stops)) (Delivers (tour site agent (stops_left task))) path) same is

-- a planner's answer for these cells is one for the task
pub path-next : {E : Type 0} (r : Result (List Cell) E) (site : Site) (s : State) (agent n : ℕ) (cells : List Cell) → ((task : Task) × IsNext site s agent n task) →
    IsTourOf site s agent n cells → IfOk r (λ path. IsLawful site.grid site.layout.nofollow s.paths agent (length cells) (Delivers cells) path) →
    IfOk r (λ path. (job : Task) × IsNext site s agent n job
    × IsLawful site.grid site.layout.nofollow s.paths agent (length (tour site agent job.stops)) (Delivers (tour site agent (stops_left job))) path)
path-next (Ok path) site s agent n cells next told lawful = (next.0, next.1, lawful-next site s agent n cells path next told lawful)
path-next (Err e) site s agent n cells next told lawful = tt

no_way-next : (site : Site) (s : State) (agent n : ℕ) (cells : List Cell) (next : (task : Task) × IsNext site s agent n task) → IsTourOf site s agent n cells →
    HasNoClearWay site.grid s.paths agent (Delivers cells) → HasNoClearWay site.grid s.paths agent (Delivers (tour site agent (stops_left next.0)))
no_way-next site s agent n cells next told none =
    let same : told.0 ≡ next.0 = same_Some told.0 next.0 (sym told.1 ∙ next-there site s agent n next.0 next.1) in
    let is : HasNoClearWay site.grid s.paths agent (Delivers (tour site agent (stops_left told.0))) =
    λ way clear. none way (record {
      walk = clear.walk;
      starts_here = clear.starts_here;
      clear = clear.clear;
      serves = (told.3 way).1 clear.serves;
    }) in
    subst (λ (task : Task). HasNoClearWay site.grid s.paths agent (Delivers (tour site agent (stops_left task)))) same is

-- and so is its refusal
pub no_path-next : {A E : Type 0} (r : Result A E) (none : E) (site : Site) (s : State) (agent n : ℕ) (cells : List Cell) → ((task : Task) × IsNext site s agent n task) →
    IsTourOf site s agent n cells → IfErr r (λ fault. fault ≡ none → HasNoClearWay site.grid s.paths agent (Delivers cells)) →
    IfErr r (λ fault. fault ≡ none → (job : Task) × IsNext site s agent n job × HasNoClearWay site.grid s.paths agent (Delivers (tour site agent (stops_left job))))
no_path-next (Ok x) none site s agent n cells next told why = tt
no_path-next (Err e) none site s agent n cells next told why = λ is. (next.0, next.1, no_way-next site s agent n cells next told (why is))

-- its next task has no clear way
abbrev pub IsShut : Site → State → ℕ → Type 0
IsShut site s agent = (n : ℕ) × (task : Task) × IsNext site s agent n task × HasNoClearWay site.grid s.paths agent (Delivers (tour site agent (stops_left task)))

-- the agent may not rest where its path ends
abbrev pub IsInTheWay : Site → State → ℕ → Type 0
IsInTheWay site s agent = IsWanted site s (end_of s.paths agent) ⊎ (¬ IsBerth site agent (end_of s.paths agent))

-- it makes way
pub way-shut : (site : Site) (s : State) (agent : ℕ) → IsStray site s agent → IsShut site s agent → IsInTheWay site s agent → MakesWay site s agent
way-shut site s agent stray shut way = record {
  no_work = inr (record { stray = stray; number = shut.0; task = shut.1; next = shut.2; no_way = shut.3 });
  in_the_way = way;
}

pub refuses-parking : (site : Site) (s : State) (agent : ℕ) → IsDue site s agent → MakesWay site s agent →
    HasNoClearWay site.grid s.paths agent (ParksAt (IsAllowed site s agent)) → Refuses site s Refusal.NoPath (Event.Request agent)
refuses-parking site s agent due way none = (due, inr (way, none))

-- an agent that is idle in 0 ticks is due
pub due_now : (site : Site) (s : State) (agent left : ℕ) → IsKnown s agent → IsIdleIn site s agent left → left ≡ 0 → IsDue site s agent
due_now site s agent left known idle none = record { known = known; idle = subst (λ k. IsIdleIn site s agent k) none idle }
