-- the six kinds of step, and laws over runs from laws over steps
use Rattle.std.proofs.Common.{arith, ◌≡◌, ℕ, ◌<◌, ◌≤◌, List, [], ◌∷◌, ◌++◌, Some, length, get_or, map, sym, subst, refl, ap, ◌∙◌}
use Prim.Native.Nat.{zero, suc}
use Rattle.std.specs.Prelude.{slice_get}
use Rattle.std.proofs.Math.ListN.{set}
use Rattle.std.specs.List.{AllZip}
use Rattle.std.proofs.lemmas.List.{length-set}
use Rattle.std.proofs.lemmas.Option.{same_Some}
use Rattle.wh_grid.specs.declared.cell.Cell.{Cell}
use Rattle.wh_points.specs.Points.{Site, IsStation}
use Rattle.wh_path.specs.Paths.{place_of}
use Rattle.wh_tasks.specs.declared.task.Task.{Task}
use Rattle.wh_tasks.specs.declared.task.Load.{Load}
use Rattle.wh_tasks.specs.Tasks.{stops_left}
use Rattle.wh_tasks.specs.Choice.{IsNearest}
use Rattle.wh_tasks.specs.Arrivals.{arrived_tasks, arrived_load, load_of_task}
use Rattle.wh_planner.specs.Duties.{Delivers, ParksAt, IsLawful}
use Rattle.wh_core.specs.States.{State, load_of, arrived, submitted, adopted, assigned, moved}
use Rattle.wh_core.specs.Steps.{Answers, Step, Run, IsDue, IsOwn, IsNextBy, MakesWay, IsAllowed, tour, other_ends, last_clock, most_tasks}
use Rattle.wh_event.specs.declared.event.Spare.{Spare}
use Rattle.wh_event.specs.declared.event.Event.{Event}
use Rattle.wh_event.specs.declared.reply.Reply.{Reply}
use Rattle.wh_event.specs.declared.entry.Entry.{Entry}

-- what a step does to all but the slots and the closed flag
pub data Moves (site : Site) (old new : State) : Type 0 where
  stays : new.clock ≡ old.clock → new.paths ≡ old.paths → new.loads ≡ old.loads → new.tasks ≡ old.tasks → length new.slots ≡ length old.slots → Moves site old new
  adds : (client : List ℕ) (names : List (List ℕ)) (cells : List Cell) → length old.tasks < most_tasks → 2 ≤ length names → length names ≤ 8 →
      AllZip (IsStation site.layout) names cells → new ≡ submitted client cells old → Moves site old new
  takes : (agent n : ℕ) (task : Task) (path : List Cell) → IsDue site old agent → load_of old agent ≡ Load.None →
      IsNearest site.grid old.tasks (other_ends old agent) (place_of old.paths agent) n task →
      IsLawful site.grid site.layout.nofollow old.paths agent (length (tour site agent task.stops)) (Delivers (tour site agent (stops_left task))) path →
      new ≡ arrived (adopted agent path (assigned agent n task old)) → Moves site old new
  continues : (agent n : ℕ) (task : Task) (path : List Cell) → IsDue site old agent → IsOwn old agent n task →
      IsLawful site.grid site.layout.nofollow old.paths agent (length (tour site agent task.stops)) (Delivers (tour site agent (stops_left task))) path →
      new ≡ arrived (adopted agent path old) → Moves site old new
  parks : (agent : ℕ) (path : List Cell) → IsDue site old agent → MakesWay site old agent →
      IsLawful site.grid site.layout.nofollow old.paths agent 2 (ParksAt (IsAllowed site old agent)) path → new ≡ adopted agent path old → Moves site old new
  ticks : old.clock < last_clock → new ≡ arrived (moved old) → Moves site old new

kept : (site : Site) (old new : State) → new ≡ old → Moves site old new
kept site old new e = stays (ap (λ s. s.clock) e) (ap (λ s. s.paths) e) (ap (λ s. s.loads) e) (ap (λ s. s.tasks) e) (ap (λ s. length s.slots) e)

-- a list with an element written that stands there
set-same : {X : Type 0} (xs : List X) (i : ℕ) (x : X) → slice_get xs i ≡ Some x → set xs i x ≡ xs
set-same [] i x is = refl
set-same (y ∷ xs) zero x is = ap (λ z. z ∷ xs) (sym (same_Some y x is))
set-same (y ∷ xs) (suc i) x is = ap (λ zs. y ∷ zs) (set-same xs i x is)

map-set : {X Y : Type 0} (f : X → Y) (xs : List X) (i : ℕ) (y d : X) → f y ≡ f (get_or xs i d) → map f (set xs i y) ≡ map f xs
map-set f [] i y d e = refl
map-set f (x ∷ xs) zero y d e = ap (λ z. z ∷ map f xs) e
map-set f (x ∷ xs) (suc i) y d e = ap (λ zs. f x ∷ zs) (map-set f xs i y d e)

-- an agent that takes the task that it has goes by a new path, and nothing else changes
continued : (s : State) (agent n : ℕ) (task : Task) (path : List Cell) → IsOwn s agent n task →
    ((tasks : List Task) → arrived_load tasks (load_of s agent) ≡ load_of_task n (slice_get tasks n)) →
    arrived (adopted agent path (assigned agent n task s)) ≡ arrived (adopted agent path s)
continued s agent n task path own names =
    let has : record task { agent = Some agent } ≡ task = λ i. record task { agent = sym own.agent_is i } in
    let same : set s.tasks n (record task { agent = Some agent }) ≡ s.tasks = ap (λ t. set s.tasks n t) has ∙ set-same s.tasks n task own.there in
    let paths = set s.paths agent path in
    let tasks = arrived_tasks s.clock (place_of paths) s.tasks in
    ap (λ ts. arrived (record s { paths = paths; loads = set s.loads agent (Load.Fetching n); tasks = ts })) same
    ∙ ap (λ ls. record s { paths = paths; loads = ls; tasks = tasks })
    (map-set (arrived_load tasks) s.loads agent (Load.Fetching n) Load.None (sym (names tasks)))

pub continued-fetching : (s : State) (agent n m : ℕ) (task : Task) (path : List Cell) → n ≡ m → IsOwn s agent n task → load_of s agent ≡ Load.Fetching m →
    arrived (adopted agent path (assigned agent n task s)) ≡ arrived (adopted agent path s)
continued-fetching s agent n m task path same own is =
    continued s agent n task path own (λ tasks. ap (λ l. arrived_load tasks l) (is ∙ ap (λ k. Load.Fetching k) (sym same)))

pub continued-carrying : (s : State) (agent n m seen : ℕ) (task : Task) (path : List Cell) → n ≡ m → IsOwn s agent n task → load_of s agent ≡ Load.Carrying m seen →
    arrived (adopted agent path (assigned agent n task s)) ≡ arrived (adopted agent path s)
continued-carrying s agent n m seen task path same own is =
    continued s agent n task path own (λ tasks. ap (λ l. arrived_load tasks l) (is ∙ ap (λ k. Load.Carrying k seen) (sym same)))

took : (site : Site) (old new : State) (agent n : ℕ) (task : Task) (path : List Cell) → IsDue site old agent →
    IsLawful site.grid site.layout.nofollow old.paths agent (length (tour site agent task.stops)) (Delivers (tour site agent (stops_left task))) path →
    new ≡ arrived (adopted agent path (assigned agent n task old)) → (load : Load) → load_of old agent ≡ load →
    IsNextBy load site old agent n task → Moves site old new
took site old new agent n task path due lawful e Load.None is next = takes agent n task path due is next lawful e
took site old new agent n task path due lawful e (Load.Fetching m) is next = continues agent n task path due next.1 lawful
    (e ∙ continued-fetching old agent n m task path next.0 next.1 is)
took site old new agent n task path due lawful e (Load.Carrying m seen) is next = continues agent n task path due next.1 lawful
    (e ∙ continued-carrying old agent n m seen task path next.0 next.1 is)

moves : (site : Site) (old : State) (reply : Reply) (event : Event) (new : State) → Answers site old reply event new → Moves site old new
moves site old (Reply.Refused refusal) event new step = kept site old new step.1
moves site old (Reply.Accepted n) (Event.Submit client stops) new step =
    adds client stops step.5.0 (let e = step.1 in let h = step.2 in omega arith) step.3 step.4 step.5.1 step.5.2
moves site old (Reply.Took n path) (Event.Request agent) new step =
    took site old new agent n step.1.0 path step.0 step.1.2 step.1.3 (load_of old agent) refl step.1.1
moves site old Reply.Rested (Event.Request agent) new step = kept site old new step.3
moves site old (Reply.Parked point path) (Event.Request agent) new step = parks agent path step.0 step.1 step.2 step.4
moves site old (Reply.Clock now first last) Event.Tick new step = ticks step.1 step.5
moves site old (Reply.Replaced slots) (Event.Replace agent (Spare.Fits count)) new step =
    stays (ap (λ s. s.clock) step.2) (ap (λ s. s.paths) step.2) (ap (λ s. s.loads) step.2) (ap (λ s. s.tasks) step.2)
    (ap (λ s. length s.slots) step.2 ∙ length-set old.slots agent count)
moves site old Reply.Closed Event.Close new step =
    stays (ap (λ s. s.clock) step.1) (ap (λ s. s.paths) step.1) (ap (λ s. s.loads) step.1) (ap (λ s. s.tasks) step.1)
    (ap (λ s. length s.slots) step.1)
moves site old reply event new step = absurd step

-- what a step does
pub step-moves : (site : Site) (old : State) (entry : Entry) (new : State) → Step site old entry new → Moves site old new
step-moves site old entry new step = moves site old entry.reply entry.event new step

-- what every step keeps, a run keeps
pub run-keeps : (site : Site) (P : State → Type 0) → ((old new : State) → P old → Moves site old new → P new) →
    (old : State) (entries : List Entry) (new : State) → P old → Run site old entries new → P new
run-keeps site P keep old [] new holds run = subst P (sym run) holds
run-keeps site P keep old (entry ∷ entries) new holds run =
    run-keeps site P keep run.0 entries new (keep old run.0 holds (step-moves site old entry run.0 run.1)) run.2

-- a run goes on by a run
pub run-join : (site : Site) (old : State) (entries : List Entry) (mid : State) (more : List Entry) (new : State) →
    Run site old entries mid → Run site mid more new → Run site old (entries ++ more) new
run-join site old [] mid more new run rest = subst (λ s. Run site s more new) run rest
run-join site old (first ∷ entries) mid more new run rest =
    (run.0, run.1, run-join site run.0 entries mid more new run.2 rest)
