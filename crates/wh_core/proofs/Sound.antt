-- sound states: a run begins with one, and each step keeps it so
use Rattle.std.proofs.Common.{◌≡◌, ℕ, ◌+◌, ◌-◌, ◌<◌, ◌≤◌, ◌∙◌, ◌⊎◌, inl, inr, List, [], None, Some, length, sym, subst, refl, ap, arith}
use Rattle.std.proofs.Math.ListN.{set}
use Rattle.std.proofs.lemmas.Bool.{cases_eq}
use Rattle.std.proofs.lemmas.List.{length-drop, get_or-set_same, get_or-set_other, get_or-map}
use Rattle.std.proofs.Math.Seq.{get_or-drop}
use Rattle.wh_grid.specs.declared.cell.Cell.{Cell}
use Rattle.wh_path.specs.Paths.{end, end_of, cell_at, path_of, steps_left, advanced}
use Rattle.wh_path.proofs.AtLemmas.{end-advanced}
use Rattle.wh_points.specs.Points.{Site, IsLayout, IsPointCell, home_of}
use Rattle.wh_tasks.specs.declared.task.Task.{Task}
use Rattle.wh_tasks.specs.declared.task.Load.{Load}
use Rattle.wh_tasks.specs.declared.task.Phase.{Phase}
use Rattle.wh_tasks.specs.Tasks.{IsTask, IsOpen, visited, phase, stops_left, delivery, load_for}
use Rattle.wh_tasks.proofs.Loads.{is_open, is_assigned, is_carried, is_done, comes_to, IsUnderway}
use Rattle.wh_planner.specs.Duties.{Delivers}
use Rattle.wh_core.specs.States.{State, opened, load_of, arrived, adopted, assigned}
use Rattle.wh_core.specs.Steps.{Answers, Step, Run, last_clock, IsDue, IsOwn, IsNextBy, IsHalted, IsBerth, tour, homeward}
use Rattle.wh_core.proofs.Drops.{homeward-some, homeward-all, homeward-end}
use Rattle.wh_core.specs.Laws.{IsOpening, IsReached, IsReachedOnTheirWays, IsBeginning, IsSound, IsSoundTask, IsOnItsWay, AllOnTheirWays, IsBeginningOnTheirWays, HasSeats, LoadsAgree}
use Rattle.wh_event.specs.declared.entry.Entry.{Entry}
use Rattle.wh_event.specs.declared.event.Event.{Event}
use Rattle.wh_event.specs.declared.reply.Reply.{Reply}
use Rattle.wh_core.proofs.StepKinds.{Moves, stays, adds, takes, continues, parks, ticks, step-moves, run-keeps, continued-fetching, continued-carrying}
use Rattle.wh_core.proofs.Motion.{IsOrderly, station-point}
use Rattle.wh_core.proofs.Opening.{berths-opened, home-point}
use Rattle.wh_core.proofs.Work.{IsKept, IsSettled, IsDriven, HasWork, settled-arrived, driven-arrived, driven-taken, driven-continued, kept-moves, kept-opening, driven-moves, rest-unloaded, due-unloaded, no-task}
use Rattle.wh_core.proofs.Settled.{arrived-kept, loads-kept, done-visited}
use Rattle.wh_core.proofs.Seats.{seats-opening, seats-moves}
use Rattle.wh_core.proofs.Limits.{Within, within-opening, within-moves}
use Rattle.wh_core.proofs.Timed.{AllTimed, timed-opening, timed-moves}

-- which load it is
pub load-cases : (load : Load) → (load ≡ Load.None) ⊎ (((n : ℕ) × (load ≡ Load.Fetching n)) ⊎ ((n : ℕ) × (seen : ℕ) × (load ≡ Load.Carrying n seen)))
load-cases Load.None = inl refl
load-cases (Load.Fetching n) = inr (inl (n, refl))
load-cases (Load.Carrying n seen) = inr (inr (n, seen, refl))

-- an assigned task with a stop is underway, and so is a carried one; and they give these loads
assigned-way : (n agent : ℕ) (task : Task) → task.agent ≡ Some agent → phase task ≡ Phase.Assigned → 1 ≤ length task.stops →
    IsUnderway agent task × (load_for n task ≡ Load.Fetching n)
assigned-way n agent task has e some = elim (comes_to n task) [
  | is_open o p l ↦ absurd (let clash : Phase.Open ≡ Phase.Assigned = sym p ∙ e in cc)
  | is_assigned a o s p l ↦ (record { agent_is = has; more = omega arith }, l)
  | is_carried a o s u p l ↦ absurd (let clash : Phase.Carried ≡ Phase.Assigned = sym p ∙ e in cc)
  | is_done a o s u p l ↦ absurd (let clash : Phase.Done ≡ Phase.Assigned = sym p ∙ e in cc)
]

carried-way : (n agent : ℕ) (task : Task) → task.agent ≡ Some agent → phase task ≡ Phase.Carried →
    IsUnderway agent task × (load_for n task ≡ Load.Carrying n (visited task))
carried-way n agent task has e = elim (comes_to n task) [
  | is_open o p l ↦ absurd (let clash : Phase.Open ≡ Phase.Carried = sym p ∙ e in cc)
  | is_assigned a o s p l ↦ absurd (let clash : Phase.Assigned ≡ Phase.Carried = sym p ∙ e in cc)
  | is_carried a o s u p l ↦ (record { agent_is = has; more = u }, l)
  | is_done a o s u p l ↦ absurd (let clash : Phase.Done ≡ Phase.Carried = sym p ∙ e in cc)
]

-- the load that loads tell of a task underway is the one that the task gives
way-load : (s : State) (agent n : ℕ) (task : Task) → LoadsAgree s agent → IsTask s.tasks n task → IsUnderway agent task → load_of s agent ≡ load_for n task
way-load s agent n task agree is way = elim (comes_to n task) [
  | is_open o p l ↦ absurd (let clash : None ≡ Some agent = sym o ∙ way.agent_is in cc)
  | is_assigned a o u p l ↦ (agree.fetching n).1 (task, is, way.agent_is, p) ∙ sym l
  | is_carried a o u m p l ↦ (agree.carrying n (visited task)).1 (task, is, way.agent_is, p, refl) ∙ sym l
  | is_done a o u m p l ↦ absurd (let w = way.more in omega arith)
]

has-work : (site : Site) (s : State) (agent : ℕ) → LoadsAgree s agent → ((n : ℕ) (task : Task) → IsTask s.tasks n task → IsSoundTask site s task) →
    (load_of s agent ≡ Load.None) ⊎ HasWork s agent
has-work site s agent agree tasks =
    elim (load-cases (load_of s agent)) [
      | inl none ↦ inl none
      | inr some ↦ elim some [
        | inl f ↦
            let t = (agree.fetching f.0).0 f.1 in
            let few : 1 ≤ length t.0.stops = (let c = (tasks f.0 t.0 t.1).stops.count in omega arith) in
            let w = assigned-way f.0 agent t.0 t.2 t.3 few in
            inr (record { number = f.0; task = t.0; there = t.1; underway = w.0; load = f.1 ∙ sym w.1 })
        | inr c ↦
            let t = (agree.carrying c.0 c.1).0 c.2 in
            let w = carried-way c.0 agent t.0 t.2 t.3 in
            inr (record { number = c.0; task = t.0; there = t.1; underway = w.0; load = c.2 ∙ ap (λ k. Load.Carrying c.0 k) (sym t.4) ∙ sym w.1 })
      ]
    ]

-- from the parts of a sound state
pub kept-from : (site : Site) (s : State) → HasSeats site s → IsOrderly site s → ((n : ℕ) (task : Task) → IsTask s.tasks n task → IsSoundTask site s task) →
    ((agent : ℕ) → agent < length s.paths → LoadsAgree s agent) → IsSettled s → IsKept site s
kept-from site s seats orderly tasks loads settled = record {
  orderly = orderly;
  working = record {
    seats = seats.loads ∙ sym seats.paths;
    few = λ n task is. (tasks n task is).few;
    fresh = λ n task is unassigned. (tasks n task is).fresh unassigned;
    known = λ n task agent is has. (tasks n task is).known agent has;
    busy = λ n task agent is way.
        let known = (tasks n task is).known agent way.agent_is in
        record { known = known; load = way-load s agent n task (loads agent known) is way };
    loads = λ agent known. has-work site s agent (loads agent known) tasks;
  };
  settled = settled;
}

pub kept-of : (site : Site) (s : State) → IsSound site s → IsKept site s
kept-of site s sound =
    let orderly : IsOrderly site s = record { free = sound.free; walks = sound.walks; stops = λ n task is. (sound.tasks n task is).stops } in
    kept-from site s sound.seats orderly sound.tasks sound.loads (subst (λ t. IsSettled t) sound.settled (settled-arrived s))

pub sound-from : (site : Site) (s : State) → HasSeats site s → Within s → AllTimed s.clock s.tasks → IsKept site s → IsSound site s
sound-from site s seats within timed kept = record {
  seats = seats;
  few = within.0;
  clock_fits = within.1;
  walks = kept.orderly.walks;
  free = kept.orderly.free;
  tasks = λ n task is. record {
    stops = kept.orderly.stops n task is;
    few = kept.working.few n task is;
    fresh = λ is_open. kept.working.fresh n task is is_open;
    known = λ agent has. kept.working.known n task agent is has;
    timed = timed n task is;
  };
  loads = λ agent known. loads-kept site s agent kept known;
  settled = arrived-kept site s kept;
}

-- each step keeps a state sound
pub sound-moves : (site : Site) (old new : State) → IsSound site old → Moves site old new → IsSound site new
sound-moves site old new sound m =
    sound-from site new (seats-moves site old new sound.seats m) (within-moves site old new (sound.few, sound.clock_fits) m)
    (timed-moves site old new (λ n task is. (sound.tasks n task is).timed) m) (kept-moves site old new (kept-of site old sound) m)

pub sound-opening : (site : Site) (s : State) → IsOpening site s → IsSound site s
sound-opening site s o =
    sound-from site s (seats-opening site s o) (within-opening site s o) (timed-opening site s o) (kept-opening site s o)

pub sound-reached : (site : Site) (entries : List Entry) (s : State) → IsReached site entries s → IsSound site s
sound-reached site entries s r =
    run-keeps site (λ t. IsSound site t) (sound-moves site) r.opening entries s r.is_beginning.sound r.run

pub kept-reached : (site : Site) (entries : List Entry) (s : State) → IsReached site entries s → IsKept site s
kept-reached site entries s r = kept-of site s (sound-reached site entries s r)

pub orderly-reached : (site : Site) (entries : List Entry) (s : State) → IsReached site entries s → IsOrderly site s
orderly-reached site entries s r = (kept-reached site entries s r).orderly

-- so each state of a run is one from which another may begin
pub beginning-reached : (site : Site) (entries : List Entry) (s : State) → IsReached site entries s → IsBeginning site s
beginning-reached site entries s r = record { layout = r.is_beginning.layout; sound = sound-reached site entries s r }

-- on its way
pub driven-way : (site : Site) (s : State) (agent : ℕ) → IsOnItsWay site s agent → IsDriven site s agent
driven-way site s agent way n task is under = way.delivers n task (record { there = is; agent_is = under.agent_is; left = under.more })

way-driven : (site : Site) (s : State) (agent : ℕ) → IsBerth site agent (end_of s.paths agent) → IsDriven site s agent → IsOnItsWay site s agent
way-driven site s agent berth d = record {
  berth = berth;
  delivers = λ n task own. d n task own.there (record { agent_is = own.agent_is; more = own.left });
}

-- a path through the stops that are left of a task, and home, ends at a berth
delivery-berth : (site : Site) (s : State) (agent n : ℕ) (task : Task) (path : List Cell) → IsLayout site.grid site.layout → IsKept site s → agent < length site.layout.agents →
    IsTask s.tasks n task → visited task < length task.stops → Delivers (tour site agent (stops_left task)) path → IsBerth site agent (end path)
delivery-berth site s agent n task path layout kept known is more d =
    let has = kept.orderly.stops n task is in
    let home = home_of site.layout agent in
    let left = stops_left task in
    let size = length-drop (visited task) task.stops in
    let some : 1 ≤ length left = omega arith in
    let long = homeward-some site.homes home left some in
    let P : Cell → Type 0 = λ c. IsPointCell site.layout c in
    record {
      point = subst P (sym d.ends_there)
          (homeward-all P site.homes home left (λ on. home-point site agent layout known)
          (λ i h. subst P (sym (get_or-drop (visited task) task.stops i (record { x = 0; y = 0 })))
          (station-point site.layout (cell_at task.stops (visited task + i)) (has.stations more (visited task + i) (omega arith))))
          (length (homeward site.homes home left) - 1) (omega arith));
      own = λ on. homeward-end site.homes home left path on d;
    }

-- a path through the stops that are left of a task ends at the last of its stops
pub left-end : (task : Task) (path : List Cell) → visited task < length task.stops → Delivers (stops_left task) path → end path ≡ delivery task
left-end task path more d =
    let size = length-drop (visited task) task.stops in
    let place : visited task + (length (stops_left task) - 1) ≡ length task.stops - 1 = omega arith in
    d.ends_there ∙ get_or-drop (visited task) task.stops (length (stops_left task) - 1) (record { x = 0; y = 0 })
    ∙ ap (λ k. cell_at task.stops k) place

pub open-more : (site : Site) (s : State) (n : ℕ) (task : Task) → IsKept site s → IsTask s.tasks n task → IsOpen task → visited task < length task.stops
open-more site s n task kept is unassigned =
    let none = kept.working.fresh n task is unassigned in
    let has = kept.orderly.stops n task is in
    let count = has.count in
    omega arith

abbrev BerthAt : Site → List (List Cell) → ℕ → Type 0
BerthAt site paths agent = IsBerth site agent (end_of paths agent)

berth-set : (site : Site) (paths : List (List Cell)) (a : ℕ) (path : List Cell) (agent : ℕ) → a < length paths → IsBerth site a (end path) →
    BerthAt site paths agent → BerthAt site (set paths a path) agent
berth-set site paths a path agent known berth old = elim (cases_eq agent a) [
  | inl e ↦ subst (λ i. BerthAt site (set paths a path) i) (sym e) (subst (λ p. IsBerth site a (end p)) (sym (get_or-set_same paths a path [] known)) berth)
  | inr ne ↦ subst (λ p. IsBerth site agent (end p)) (sym (get_or-set_other paths a agent path [] ne)) old
]

berth-moves : (site : Site) (old new : State) (agent : ℕ) → IsLayout site.grid site.layout → HasSeats site old → IsKept site old → agent < length old.paths →
    BerthAt site old.paths agent → Moves site old new → BerthAt site new.paths agent
berth-moves site old new agent layout seats kept known berth m =
    let P : State → Type 0 = λ s. BerthAt site s.paths agent in
    let seat : (a : ℕ) → a < length old.paths → a < length site.layout.agents = λ a h. (let e = seats.paths in omega arith) in
    elim m [
      | stays c p l t z ↦ subst (λ (ps : List (List Cell)). BerthAt site ps agent) (sym p) berth
      | adds client names cells room count few stations e ↦ subst P (sym e) berth
      | takes a n task path due none next lawful e ↦
          subst P (sym e) (berth-set site old.paths a path agent due.known.known
          (delivery-berth site old a n task path layout kept (seat a due.known.known) next.eligible.there (open-more site old n task kept next.eligible.there next.eligible.is_open) lawful.serves) berth)
      | continues a n task path due own lawful e ↦
          subst P (sym e) (berth-set site old.paths a path agent due.known.known
          (delivery-berth site old a n task path layout kept (seat a due.known.known) own.there own.left lawful.serves) berth)
      | parks a path due way lawful e ↦ subst P (sym e) (berth-set site old.paths a path agent due.known.known lawful.serves.rest.berth berth)
      | ticks fits e ↦
          subst P (sym e) (subst (λ p. IsBerth site agent (end p)) (sym (get_or-map advanced old.paths agent [] [] known))
          (subst (λ c. IsBerth site agent c) (sym (end-advanced (path_of old.paths agent))) berth))
    ]

pub way-moves : (site : Site) (old new : State) (agent : ℕ) → IsLayout site.grid site.layout → IsSound site old → agent < length old.paths → IsOnItsWay site old agent → Moves site old new → IsOnItsWay site new agent
way-moves site old new agent layout sound known way m =
    let kept = kept-of site old sound in
    way-driven site new agent (berth-moves site old new agent layout sound.seats kept known way.berth m) (driven-moves site old new agent kept known (driven-way site old agent way) m)

pub ways_are_kept : (site : Site) (entries : List Entry) (old : State) (entry : Entry) (new : State) (agent : ℕ) → IsReached site entries old → Step site old entry new →
    agent < length old.paths → IsOnItsWay site old agent → IsOnItsWay site new agent
ways_are_kept site entries old entry new agent r step known way =
    way-moves site old new agent r.is_beginning.layout (sound-reached site entries old r) known way (step-moves site old entry new step)

-- an agent that takes a task is on its way
continued-way : (site : Site) (old new : State) (agent n : ℕ) (task : Task) (path : List Cell) → IsLayout site.grid site.layout → HasSeats site old → IsKept site old → IsDue site old agent →
    Delivers (tour site agent (stops_left task)) path → IsOwn old agent n task → new ≡ arrived (adopted agent path old) → IsOnItsWay site new agent
continued-way site old new agent n task path layout seats kept due serves own e =
    let seat : agent < length site.layout.agents = (let f = seats.paths in let k = due.known.known in omega arith) in
    subst (λ s. IsOnItsWay site s agent) (sym e) (way-driven site _ agent
    (subst (λ p. IsBerth site agent (end p)) (sym (get_or-set_same old.paths agent path [] due.known.known)) (delivery-berth site old agent n task path layout kept seat own.there own.left serves))
    (driven-arrived site (adopted agent path old) agent
    (driven-continued site old agent n task path kept.working due.known.known own.there (record { agent_is = own.agent_is; more = own.left }) serves)))

taken-way : (site : Site) (old new : State) (agent n : ℕ) (task : Task) (path : List Cell) → IsLayout site.grid site.layout → HasSeats site old → IsKept site old → IsDue site old agent →
    Delivers (tour site agent (stops_left task)) path → new ≡ arrived (adopted agent path (assigned agent n task old)) → (load : Load) → load_of old agent ≡ load →
    IsNextBy load site old agent n task → IsOnItsWay site new agent
taken-way site old new agent n task path layout seats kept due serves e Load.None is next =
    let there = next.eligible.there in
    let seat : agent < length site.layout.agents = (let f = seats.paths in let k = due.known.known in omega arith) in
    let berth = delivery-berth site old agent n task path layout kept seat there (open-more site old n task kept there next.eligible.is_open) serves in
    subst (λ s. IsOnItsWay site s agent) (sym e) (way-driven site _ agent
    (subst (λ p. IsBerth site agent (end p)) (sym (get_or-set_same old.paths agent path [] due.known.known)) berth)
    (driven-arrived site (adopted agent path (assigned agent n task old)) agent (driven-taken site old agent n task path kept.working due.known.known is there serves)))
taken-way site old new agent n task path layout seats kept due serves e (Load.Fetching m) is next =
    continued-way site old new agent n task path layout seats kept due serves next.1 (e ∙ continued-fetching old agent n m task path next.0 next.1 is)
taken-way site old new agent n task path layout seats kept due serves e (Load.Carrying m seen) is next =
    continued-way site old new agent n task path layout seats kept due serves next.1 (e ∙ continued-carrying old agent n m seen task path next.0 next.1 is)

pub takers_are_on_their_ways : (site : Site) (entries : List Entry) (old : State) (n : ℕ) (path : List Cell) (agent : ℕ) (new : State) → IsReached site entries old →
    Answers site old (Reply.Took n path) (Event.Request agent) new → IsOnItsWay site new agent
takers_are_on_their_ways site entries old n path agent new r step =
    taken-way site old new agent n step.1.0 path r.is_beginning.layout (sound-reached site entries old r).seats (kept-reached site entries old r) step.0 step.1.2.serves step.1.3 (load_of old agent) refl step.1.1

pub ways-moves : (site : Site) (old new : State) → IsLayout site.grid site.layout → IsSound site old → AllOnTheirWays site old → Moves site old new → AllOnTheirWays site new
ways-moves site old new layout sound home m agent known =
    let h : agent < length old.paths = (let e = (seats-moves site old new sound.seats m).paths in let f = sound.seats.paths in omega arith) in
    way-moves site old new agent layout sound h (home agent h) m

pub ways-opening : (site : Site) (s : State) → IsOpening site s → AllOnTheirWays site s
ways-opening site s o = subst (λ t. AllOnTheirWays site t) (sym o.is_opened) (λ agent known. record {
  berth = berths-opened site o.clock o.slots o.layout agent known;
  delivers = λ n task own. absurd (no-task n task own.there);
})

abbrev SoundHome : Site → State → Type 0
SoundHome site s = IsSound site s × AllOnTheirWays site s

pub ways-run : (site : Site) (old : State) (entries : List Entry) (new : State) → IsLayout site.grid site.layout → IsSound site old → AllOnTheirWays site old → Run site old entries new → AllOnTheirWays site new
ways-run site old entries new layout sound home run =
    let both = run-keeps site (λ t. SoundHome site t) (λ a b h m. (sound-moves site a b h.0 m, ways-moves site a b layout h.0 h.1 m)) old entries new (sound, home) run in
    both.1

pub ways-reached : (site : Site) (entries : List Entry) (s : State) → IsReachedOnTheirWays site entries s → AllOnTheirWays site s
ways-reached site entries s r = ways-run site r.reached.opening entries s r.reached.is_beginning.layout r.reached.is_beginning.sound r.on_their_ways r.reached.run

pub opening-begins : (site : Site) (s : State) → IsOpening site s → IsBeginning site s × AllOnTheirWays site s
opening-begins site s o = (record { layout = o.layout; sound = sound-opening site s o }, ways-opening site s o)

-- a run from an opening state is a run from a beginning at which all were on their ways
pub opening-reached : (site : Site) (opening : State) (entries : List Entry) (s : State) → IsOpening site opening → Run site opening entries s → IsReachedOnTheirWays site entries s
opening-reached site opening entries s o run =
    let begins = opening-begins site opening o in
    record { reached = record { opening = opening; is_beginning = begins.0; run = run }; on_their_ways = begins.1 }

-- with an opening state a warehouse may begin
pub opening-may : (site : Site) (opening : State) → IsOpening site opening → IsBeginningOnTheirWays site opening
opening-may site opening is = (let begins = opening-begins site opening is in record { beginning = begins.0; on_their_ways = begins.1 })

-- where it began with agents at their starts, that is an opening
pub may-opening : (site : Site) (opening : State) (clock : ℕ) (slots : List ℕ) → IsBeginningOnTheirWays site opening → opening ≡ opened site.layout clock slots → IsOpening site opening
may-opening site opening clock slots may is =
    let sound = may.beginning.sound in
    record {
      layout = may.beginning.layout;
      clock = clock;
      clock_fits = subst (λ (s : State). s.clock ≤ last_clock) is sound.clock_fits;
      slots = slots;
      seats = ap (λ (s : State). length s.slots) (sym is) ∙ sound.seats.slots;
      is_opened = is;
    }

-- a run from there is what the laws are about
pub begun-reached : (site : Site) (opening : State) (history : List Entry) (state : State) → IsBeginningOnTheirWays site opening → Run site opening history state → IsReachedOnTheirWays site history state
begun-reached site opening history state may run = record {
  reached = record { opening = opening; is_beginning = may.beginning; run = run };
  on_their_ways = may.on_their_ways;
}

-- a due agent has no load, where all are on their ways; nor has one with no steps left
pub ways-unloaded : (site : Site) (s : State) (agent : ℕ) → IsKept site s → AllOnTheirWays site s → IsDue site s agent → load_of s agent ≡ Load.None
ways-unloaded site s agent kept home due =
    due-unloaded site s agent kept.working kept.settled (driven-way site s agent (home agent due.known.known)) due

pub no_load_at_rest : (site : Site) (entries : List Entry) (s : State) (agent : ℕ) → IsReachedOnTheirWays site entries s → agent < length s.paths →
    steps_left s.paths agent ≡ 0 → load_of s agent ≡ Load.None
no_load_at_rest site entries s agent r known rests =
    let kept = kept-reached site entries s r.reached in
    rest-unloaded site s agent kept.working kept.settled (driven-way site s agent (ways-reached site entries s r agent known)) known rests

-- so nobody was stopped
pub none-halted : (site : Site) (s : State) (n : ℕ) (task : Task) → IsKept site s → AllOnTheirWays site s → ¬ IsHalted site s n task
none-halted site s n task kept home h =
    h.halts ((home h.agent (kept.working.known n task h.agent h.own.there h.own.agent_is)).delivers n task h.own)

pub done_is_all_visited : (site : Site) (entries : List Entry) (s : State) (n : ℕ) (task : Task) → IsReached site entries s → IsTask s.tasks n task →
    (visited task ≤ length task.stops) × (phase task ≡ Phase.Done → visited task ≡ length task.stops)
done_is_all_visited site entries s n task r is =
    let few = ((sound-reached site entries s r).tasks n task is).few in
    (few, done-visited task few)
