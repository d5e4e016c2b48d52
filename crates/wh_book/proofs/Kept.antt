-- what is ready for the book, and what the laws give where it is prepared
use Rattle.std.proofs.Common.{◌≡◌, ◌≢◌, ℕ, ◌+◌, ◌<◌, ◌≤◌, ◌∙◌, List, [], ◌∷◌, ◌++◌, Bool, false, length, sym, subst, refl, ap, arith}
use Prim.Native.Nat.{suc}
use Rattle.std.specs.Prelude.{Some, slice_get, All, Contains}
use Rattle.std.proofs.lemmas.Option.{same_Some, get_or_from_slice_get}
use Rattle.wh_grid.specs.declared.cell.Cell.{Cell}
use Rattle.wh_path.specs.Paths.{AllFree, IsWalk, path_of, end}
use Rattle.wh_points.specs.declared.points.Point.{Point}
use Rattle.wh_points.specs.Points.{Layout, Site, IsLayout, IsPoint}
use Rattle.wh_tasks.specs.declared.task.Task.{Task}
use Rattle.wh_tasks.specs.declared.task.Load.{Load}
use Rattle.wh_tasks.specs.Tasks.{stops_left}
use Rattle.wh_planner.specs.Duties.{IsLawful, Delivers, ParksAt}
use Rattle.wh_core.specs.States.{State, opened, arrived, adopted, assigned, moved, picked, dropped}
use Rattle.wh_core.specs.Steps.{Step, Run, Answers, IsDue, IsNext, IsNextBy, IsAllowed, MakesWay, last_clock, tour}
use Rattle.wh_core.specs.Laws.{IsReached, IsReachedOnTheirWays, IsBeginning, AllOnTheirWays, IsOpening}
use Rattle.wh_event.specs.declared.entry.Entry.{Entry}
use Rattle.wh_event.specs.declared.event.Event.{Event}
use Rattle.wh_event.specs.declared.reply.Reply.{Reply}
use Rattle.wh_event.specs.declared.reply.Refusal.{Refusal}
use Rattle.wh_core.proofs.StepKinds.{step-moves, run-join}
use Rattle.wh_core.proofs.Sound.{opening-begins, ways-opening, ways-moves, sound-reached, beginning-reached}
use Rattle.wh_core.proofs.Ways.{none_is_refused_a_path}
use Rattle.std.proofs.lemmas.List.Elements.{Contains-push}
use Rattle.wh_state.specs.Standings.{IsSoundSomewhere}
use Rattle.wh_book.specs.declared.draft.Change.{Change}
use Rattle.wh_book.specs.Settings.{IsPlaced}
use Rattle.wh_book.specs.Drafts.{Seen, IsKept, IsWatched, HasWaysForAll, Drafts, Changes, CanChange, AllServed, ticked}
use Rattle.wh_book.proofs.GoingOn.{taken-on}

-- what a book keeps is what the laws are about
pub kept-reached : (site : Site) (opening : State) (history : List Entry) (state : State) → IsKept site opening history state → IsReached site history state
kept-reached site opening history state kept = record { opening = opening; is_beginning = kept.begins; run = kept.run }

pub kept-ways : (site : Site) (opening : State) (history : List Entry) (state : State) → AllOnTheirWays site opening → IsKept site opening history state → IsReachedOnTheirWays site history state
kept-ways site opening history state on_ways kept = record {
  reached = record { opening = opening; is_beginning = kept.begins; run = kept.run };
  on_their_ways = on_ways;
}

-- with its state another run may begin
pub kept-begins : (site : Site) (opening : State) (history : List Entry) (state : State) → IsKept site opening history state → IsBeginning site state
kept-begins site opening history state kept = beginning-reached site history state (kept-reached site opening history state kept)

pub opening-at : (site : Site) (clock : ℕ) (slots : List ℕ) → IsLayout site.grid site.layout → clock ≤ last_clock → length slots ≡ length site.layout.agents →
    IsOpening site (opened site.layout clock slots)
opening-at site clock slots layout fits seats = record { layout = layout; clock = clock; clock_fits = fits; slots = slots; seats = seats; is_opened = refl }

-- a beginning with agents at their starts is an opening
pub begun-opening : (site : Site) (opening : State) (clock : ℕ) (slots : List ℕ) → IsBeginning site opening → opening ≡ opened site.layout clock slots → IsOpening site opening
begun-opening site opening clock slots begins is = record {
  layout = begins.layout;
  clock = clock;
  clock_fits = subst (λ (s : State). s.clock ≤ last_clock) is begins.sound.clock_fits;
  slots = slots;
  seats = ap (λ (s : State). length s.slots) (sym is) ∙ begins.sound.seats.slots;
  is_opened = is;
}

-- a book with no entry is kept
pub kept-begun : (site : Site) (opening : State) (history : List Entry) (state : State) → IsBeginning site opening → history ≡ [] → state ≡ opening → IsKept site opening history state
kept-begun site opening history state begins none stands = record {
  begins = begins;
  run = subst (λ (entries : List Entry). Run site opening entries state) (sym none) stands;
}

-- and nobody in it is a stray where the agents are at their starts
pub watched-opened : (site : Site) (clock : ℕ) (slots first : List ℕ) (history : List Entry) (state : State) (strays : Bool) → IsLayout site.grid site.layout →
    clock ≤ last_clock → length slots ≡ length site.layout.agents → first ≡ slots → history ≡ [] → state ≡ opened site.layout clock slots →
    IsWatched site (opened site.layout clock first) history state strays
watched-opened site clock slots first history state strays layout fits seats same none stands =
    let opening = opening-at site clock first layout fits (ap length same ∙ seats) in
    let is : state ≡ opened site.layout clock first = stands ∙ ap (opened site.layout clock) (sym same) in
    record {
      kept = kept-begun site (opened site.layout clock first) history state (opening-begins site (opened site.layout clock first) opening).0 none is;
      ways = λ _. subst (λ (s : State). AllOnTheirWays site s) (sym is) (ways-opening site (opened site.layout clock first) opening);
    }

-- its state is one that may be kept
pub sound-somewhere : (site : Site) (s : State) → IsBeginning site s → length site.layout.agents ≤ 256 → IsSoundSomewhere s
sound-somewhere site s begins few = record { site = site; few = few; sound = begins.sound }

-- a run goes on by one step
pub run-more : (site : Site) (old : State) (entries : List Entry) (mid : State) (entry : Entry) (new : State) →
    Run site old entries mid → Step site mid entry new → Run site old (entries ++ entry ∷ []) new
run-more site old entries mid entry new run step = run-join site old entries mid (entry ∷ []) new run (new, step, refl)

-- the paths are free of each other, so that a planner may be asked
pub kept-free : (site : Site) (opening : State) (history : List Entry) (state : State) → IsKept site opening history state → AllFree site.layout.nofollow state.paths
kept-free site opening history state kept = (sound-reached site history state (kept-reached site opening history state kept)).free

-- each agent starts somewhere
pub kept-start : (site : Site) (opening : State) (history : List Entry) (state : State) (agent : ℕ) → IsKept site opening history state → agent < length state.paths →
    agent < length site.layout.agents
kept-start site opening history state agent kept known =
    let seats = (sound-reached site history state (kept-reached site opening history state kept)).seats in
    rw (← seats.paths) known

-- and each agent goes by a walk
pub kept-walks : (site : Site) (opening : State) (history : List Entry) (state : State) → IsKept site opening history state →
    (agent : ℕ) → agent < length state.paths → IsWalk site.grid (path_of state.paths agent)
kept-walks site opening history state kept = (sound-reached site history state (kept-reached site opening history state kept)).walks

-- a task that is taken by an agent with no load
pub took-drafts : (book : Seen) (caller agent n : ℕ) (path : List Cell) (task : Task) → slice_get book.state.loads agent ≡ Some Load.None →
    IsDue book.site book.state agent → IsNext book.site book.state agent n task →
    IsLawful book.site.grid book.site.layout.nofollow book.state.paths agent (length (tour book.site agent task.stops)) (Delivers (tour book.site agent (stops_left task))) path → 1 ≤ book.entry_room →
    Drafts book caller (Event.Request agent)
    (record { entry = record { caller = caller; event = Event.Request agent; reply = Reply.Took n path }; change = Change.Take agent n path })
took-drafts book caller agent n path task idle due next lawful room =
    let entry : Entry = record { caller = caller; event = Event.Request agent; reply = Reply.Took n path } in
    let nearest : IsNextBy Load.None book.site book.state agent n task =
    subst (λ l. IsNextBy l book.site book.state agent n task) (get_or_from_slice_get book.state.loads agent Load.None Load.None idle) next in
    let step : (new : State) → Changes (Change.Take agent n path) book.state new → Step book.site book.state entry new =
    λ new changes.
    let same : changes.0 ≡ task = same_Some changes.0 task (sym changes.1 ∙ nearest.eligible.there) in
    (due, (task, next, lawful, changes.2 ∙ ap (λ t. arrived (adopted agent path (assigned agent n t book.state))) same)) in
    let can : CanChange (Change.Take agent n path) (record { state = book.state; room = book.task_room }) =
    (due.known.known, idle, (task, nearest.eligible.there, nearest.eligible.is_open)) in
    record {
      caller_is = refl;
      event_is = refl;
      ready = record { step = step; can = can; room = room };
    }

-- an agent with a load goes on with its task: it needs no more than the path
pub went_on-drafts : (book : Seen) (caller agent n : ℕ) (path : List Cell) (task : Task) → IsKept book.site book.opening book.history book.state →
    ¬ (slice_get book.state.loads agent ≡ Some Load.None) → IsDue book.site book.state agent → IsNext book.site book.state agent n task →
    IsLawful book.site.grid book.site.layout.nofollow book.state.paths agent (length (tour book.site agent task.stops)) (Delivers (tour book.site agent (stops_left task))) path → 1 ≤ book.entry_room →
    Drafts book caller (Event.Request agent)
    (record { entry = record { caller = caller; event = Event.Request agent; reply = Reply.Took n path }; change = Change.Park agent path })
went_on-drafts book caller agent n path task kept busy due next lawful room =
    let sound = (kept-begins book.site book.opening book.history book.state kept).sound in
    let same = taken-on book.site book.state agent n task path sound due.known.known busy lawful.starts_here next in
    record {
      caller_is = refl;
      event_is = refl;
      ready = record {
        step = λ new changes. (due, (task, next, lawful, changes ∙ sym same));
        can = due.known.known;
        room = room;
      };
    }

-- an answer that changes nothing is a step
pub answer-drafts : (book : Seen) (caller : ℕ) (event : Event) (reply : Reply) → Answers book.site book.state reply event book.state → 1 ≤ book.entry_room →
    Drafts book caller event (record { entry = record { caller = caller; event = event; reply = reply }; change = Change.Nothing })
answer-drafts book caller event reply answers room = record {
  caller_is = refl;
  event_is = refl;
  ready = record {
    step = λ new changes. subst (λ t. Step book.site book.state (record { caller = caller; event = event; reply = reply }) t) (sym changes) answers;
    can = tt;
    room = room;
  };
}

-- the name of a point that stands where a path ends
pub placed-point : (layout : Layout) (cell : Cell) (point : Point) → IsPlaced layout.points cell point → IsPoint layout point.name cell
placed-point layout cell point placed =
    (point.kind, subst (λ (c : Cell). Contains layout.points (record { name = point.name; cell = c; kind = point.kind })) placed.cell_is placed.there)

-- a path by which an agent makes way
pub parked-drafts : (book : Seen) (caller agent : ℕ) (point : List ℕ) (path : List Cell) →
    IsDue book.site book.state agent → MakesWay book.site book.state agent →
    IsLawful book.site.grid book.site.layout.nofollow book.state.paths agent 2 (ParksAt (IsAllowed book.site book.state agent)) path →
    IsPoint book.site.layout point (end path) → 1 ≤ book.entry_room →
    Drafts book caller (Event.Request agent)
    (record { entry = record { caller = caller; event = Event.Request agent; reply = Reply.Parked point path }; change = Change.Park agent path })
parked-drafts book caller agent point path due way lawful there room = record {
  caller_is = refl;
  event_is = refl;
  ready = record {
    step = λ new changes. (due, way, lawful, there, changes);
    can = due.known.known;
    room = room;
  };
}

-- a tick is a step
pub step-ticked : (site : Site) (old new : State) → old.closed ≡ false → old.clock < last_clock → new ≡ arrived (moved old) → Answers site old (ticked old) Event.Tick new
step-ticked site old new not_closed early is = (not_closed, early, refl, refl, refl, is)

-- a tick that is drafted
pub tick-drafts : (book : Seen) (caller clock first last : ℕ) → book.state.closed ≡ false → book.state.clock < last_clock → clock ≡ book.state.clock →
    first ≡ picked (moved book.state) → last ≡ dropped (moved book.state) → 1 ≤ book.entry_room →
    Drafts book caller Event.Tick (record { entry = record { caller = caller; event = Event.Tick; reply = Reply.Clock (clock + 1) first last }; change = Change.Tick })
tick-drafts book caller clock first last not_closed early clock_is first_is last_is room = record {
  caller_is = refl;
  event_is = refl;
  ready = record {
    step = λ new changes. (not_closed, early, ap (λ n. n + 1) clock_is, first_is, last_is, changes);
    can = early;
    room = room;
  };
}

-- one step more is kept
pub kept-more : (site : Site) (opening : State) (history : List Entry) (state : State) (entry : Entry) (new : State) → IsKept site opening history state →
    Step site state entry new → IsKept site opening (history ++ entry ∷ []) new
kept-more site opening history state entry new kept step = record {
  begins = kept.begins;
  run = run-more site opening history state entry new kept.run step;
}

-- and all stay on their ways
pub ways-more : (site : Site) (opening : State) (history : List Entry) (state : State) (entry : Entry) (new : State) → IsKept site opening history state →
    Step site state entry new → AllOnTheirWays site state → AllOnTheirWays site new
ways-more site opening history state entry new kept step on_ways =
    let begins = kept-begins site opening history state kept in
    ways-moves site state new begins.layout begins.sound on_ways (step-moves site state entry new step)

-- so a book whose flag stays goes on
pub watched-more : (site : Site) (opening : State) (history : List Entry) (state : State) (strays : Bool) (entry : Entry) (new : State) → IsWatched site opening history state strays →
    Step site state entry new → IsWatched site opening (history ++ entry ∷ []) new strays
watched-more site opening history state strays entry new watched step = record {
  kept = kept-more site opening history state entry new watched.kept step;
  ways = λ none. ways-more site opening history state entry new watched.kept step (watched.ways none);
}

-- the agents stay as many
pub kept-seats : (site : Site) (opening : State) (history : List Entry) (state : State) (entry : Entry) (new : State) → IsKept site opening history state →
    Step site state entry new → length new.paths ≡ length state.paths
kept-seats site opening history state entry new kept step =
    let next = kept-more site opening history state entry new kept step in
    (sound-reached site _ new (kept-reached site opening _ new next)).seats.paths ∙ sym (sound-reached site _ state (kept-reached site opening history state kept)).seats.paths

pub kept-served : (site : Site) (opening : State) (history : List Entry) (state : State) → IsKept site opening history state → HasWaysForAll site opening → AllServed history
kept-served site opening history state kept ways = none_is_refused_a_path site history state ways.formed (kept-ways site opening history state ways.on_their_ways kept)

-- on a well-formed instance no entry that is added is a refusal for lack of a path
pub step-served : (site : Site) (opening : State) (history : List Entry) (state : State) (entry : Entry) (new : State) → IsKept site opening history state →
    Step site state entry new → HasWaysForAll site opening → entry.reply ≢ Reply.Refused Refusal.NoPath
step-served site opening history state entry new kept step ways =
    let all = kept-served site opening (history ++ entry ∷ []) new (kept-more site opening history state entry new kept step) ways in
    let last = Contains-push history entry in
    subst (λ (e : Entry). e.reply ≢ Reply.Refused Refusal.NoPath) last.2 (all last.0 entry last.1)

all-right : {X : Type 0} (P : X → Type 0) (xs ys : List X) → All P (xs ++ ys) → All P ys
all-right P [] ys all = all
all-right P (x ∷ xs) ys all = all-right P xs ys (λ k d lt. all (suc k) d (let l : suc k < length (x ∷ (xs ++ ys)) = omega arith in l))

-- nor any entry of a run that goes on from there
pub run-served : (site : Site) (opening : State) (history : List Entry) (state : State) (added : List Entry) (new : State) → IsBeginning site opening →
    Run site opening history state → Run site state added new → HasWaysForAll site opening → AllServed added
run-served site opening history state added new begins run more ways =
    let joined = run-join site opening history state added new run more in
    let all = kept-served site opening (history ++ added) new (record { begins = begins; run = joined }) ways in
    all-right (λ (entry : Entry). entry.reply ≢ Reply.Refused Refusal.NoPath) history added all
