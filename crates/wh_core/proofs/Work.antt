-- what every state of a run keeps about loads and tasks
use Rattle.std.proofs.Common.{◌≡◌, ◌≢◌, ℕ, ◌+◌, ◌<◌, ◌≤◌, ◌∙◌, ◌⊎◌, inl, inr, List, [], ◌∷◌, ◌++◌, Some, None, length, get_or, drop, sym, subst, refl, ap, arith}
use Rattle.std.specs.Prelude.{slice_get}
use Rattle.std.proofs.Math.ListN.{set}
use Rattle.std.proofs.lemmas.Bool.{cases_eq, cases_lt}
use Rattle.std.proofs.lemmas.Option.{slice_get_within, same_Some}
use Rattle.std.proofs.lemmas.List.{length-set, length-map, length-drop, get_or-set_same, get_or-set_other, get_or-map}
use Rattle.wh_grid.specs.declared.cell.Cell.{Cell}
use Rattle.wh_path.specs.Paths.{at, path_of, place_of, steps_left, advanced}
use Rattle.wh_points.specs.Points.{Site, starts, home_of}
use Rattle.wh_tasks.specs.declared.task.Task.{Task}
use Rattle.wh_tasks.specs.declared.task.Load.{Load}
use Rattle.wh_tasks.specs.Tasks.{IsTask, IsOpen, visited, stops_left, load_for}
use Rattle.wh_tasks.specs.Arrivals.{stops_here, arrived_task, arrived_tasks, arrived_load, load_of_task}
use Rattle.wh_tasks.proofs.Visiting.{stops_here-next, arrived-agent, arrived-stops, arrived-open, arrived-by, arrived-few, arrived-stuck, visited-visited_at, left-visited_at}
use Rattle.wh_tasks.proofs.Loads.{IsUnderway, underway-load, underway-arrives, over-load, unvisited-load}
use Rattle.wh_planner.specs.Duties.{Delivers}
use Rattle.wh_core.specs.States.{State, load_of, opened, arrived, submitted, adopted, assigned, moved}
use Rattle.wh_core.specs.Steps.{IsDue, tour}
use Rattle.wh_core.specs.Laws.{IsOpening}
use Rattle.wh_core.proofs.StepKinds.{Moves, stays, adds, takes, continues, parks, ticks}
use Rattle.wh_core.proofs.Lists.{slice_get_push, slice_get-append, slice_get-set_same, slice_get-set_other, map-at, map_from}
use Rattle.wh_core.proofs.Motion.{IsOrderly, orderly-moves}
use Rattle.wh_core.proofs.Opening.{orderly-opening}
use Rattle.wh_core.proofs.Drops.{homeward-some, homeward-drop, homeward-first, delivers-advanced, delivers-resting}

-- the agent is about the task of this number: it has its load
pub record IsBusy (s : State) (agent n : ℕ) (task : Task) : Type 0 where
  pub known : agent < length s.paths
  pub load : load_of s agent ≡ load_for n task

-- the agent has a task to do
pub record HasWork (s : State) (agent : ℕ) : Type 0 where
  pub number : ℕ
  pub task : Task
  pub there : IsTask s.tasks number task
  pub underway : IsUnderway agent task
  pub load : load_of s agent ≡ load_for number task

pub record IsWorking (s : State) : Type 0 where
  pub seats : length s.loads ≡ length s.paths
  pub few : (n : ℕ) (task : Task) → IsTask s.tasks n task → visited task ≤ length task.stops
  pub fresh : (n : ℕ) (task : Task) → IsTask s.tasks n task → IsOpen task → visited task ≡ 0
  pub known : (n : ℕ) (task : Task) (agent : ℕ) → IsTask s.tasks n task → task.agent ≡ Some agent → agent < length s.paths
  pub busy : (n : ℕ) (task : Task) (agent : ℕ) → IsTask s.tasks n task → IsUnderway agent task → IsBusy s agent n task
  pub loads : (agent : ℕ) → agent < length s.paths → (load_of s agent ≡ Load.None) ⊎ HasWork s agent

-- no agent stands at the stop that it is to visit next
pub record IsSettled (s : State) : Type 0 where
  pub stuck : (n : ℕ) (task : Task) (agent : ℕ) → IsTask s.tasks n task → IsUnderway agent task →
      stops_here (place_of s.paths agent) (stops_left task) ≡ 0

-- the agent goes by a path through the stops that are left of its task, if it has one
abbrev pub IsDriven : Site → State → ℕ → Type 0
IsDriven site s agent = (n : ℕ) (task : Task) → IsTask s.tasks n task → IsUnderway agent task → Delivers (tour site agent (stops_left task)) (path_of s.paths agent)

-- each task has a stop
abbrev pub AllHaveStops : State → Type 0
AllHaveStops s = (n : ℕ) (task : Task) → IsTask s.tasks n task → 1 ≤ length task.stops

-- a task that is underway after the arrivals was so before
underway-before : (clock : ℕ) (place : ℕ → Cell) (agent : ℕ) (task : Task) → IsUnderway agent (arrived_task clock place task) → IsUnderway agent task
underway-before clock place agent task w =
    let has : task.agent ≡ Some agent = sym (arrived-agent clock place task) ∙ w.agent_is in
    record {
      agent_is = has;
      more =
          let by = arrived-by clock place task agent has in
          let count : visited (arrived_task clock place task) ≡ visited task + stops_here (place agent) (stops_left task) =
          ap (λ (t : Task). visited t) by ∙ visited-visited_at clock (place agent) task in
          let stops = ap (λ (c : List Cell). length c) (arrived-stops clock place task) in
          let more = w.more in
          omega arith;
    }

delivers-arrived : (site : Site) (clock : ℕ) (place : ℕ → Cell) (agent : ℕ) (task : Task) (path : List Cell) →
    IsUnderway agent (arrived_task clock place task) → Delivers (tour site agent (stops_left task)) path → Delivers (tour site agent (stops_left (arrived_task clock place task))) path
delivers-arrived site clock place agent task path w d =
    let before = underway-before clock place agent task w in
    let by = arrived-by clock place task agent before.agent_is in
    let here = place agent in
    let left : stops_left (arrived_task clock place task) ≡ drop (stops_here here (stops_left task)) (stops_left task) =
    ap (λ (t : Task). stops_left t) by ∙ left-visited_at clock here task in
    let count = visited-visited_at clock here task in
    let count_by = ap (λ (t : Task). visited t) by in
    let stops = ap (λ (c : List Cell). length c) (arrived-stops clock place task) in
    let size = length-drop (visited task) task.stops in
    let more = w.more in
    subst (λ l. Delivers (tour site agent l) path) (sym left)
    (homeward-drop site.homes (home_of site.layout agent) (stops_left task) path (stops_here here (stops_left task)) (omega arith) d)

-- after the arrivals the work is as it should be, and none is left to arrive
pub working-arrived : (s : State) → AllHaveStops s → IsWorking s → IsWorking (arrived s)
working-arrived s stops w =
    let place : ℕ → Cell = λ agent. place_of s.paths agent in
    let after = arrived_task s.clock place in
    let tasks = arrived_tasks s.clock place s.tasks in
    let load_after : (agent n : ℕ) (task : Task) → agent < length s.paths → IsTask s.tasks n task → IsUnderway agent task →
    load_of s agent ≡ load_for n task → load_of (arrived s) agent ≡ load_for n (after task) =
    λ agent n task known there way load.
    let h : agent < length s.loads = (let e = w.seats in omega arith) in
    get_or-map (arrived_load tasks) s.loads agent Load.None Load.None h
    ∙ ap (arrived_load tasks) load
    ∙ underway-arrives n agent task tasks way
    ∙ ap (load_of_task n) (map-at after s.tasks n task there) in
    record {
      seats = length-map s.loads (arrived_load tasks) ∙ w.seats;
      few = λ n task is.
          let from = map_from after s.tasks n task is in
          subst (λ (t : Task). visited t ≤ length t.stops) from.2 (arrived-few s.clock place from.0 (w.few n from.0 from.1));
      fresh = λ n task is is_open.
          let from = map_from after s.tasks n task is in
          let was : from.0.agent ≡ None = sym (arrived-agent s.clock place from.0) ∙ ap (λ (t : Task). t.agent) from.2 ∙ is_open in
          ap (λ (t : Task). visited t) (sym from.2 ∙ arrived-open s.clock place from.0 was) ∙ w.fresh n from.0 from.1 was;
      known = λ n task agent is has.
          let from = map_from after s.tasks n task is in
          w.known n from.0 agent from.1 (sym (arrived-agent s.clock place from.0) ∙ ap (λ (t : Task). t.agent) from.2 ∙ has);
      busy = λ n task agent is way.
          let from = map_from after s.tasks n task is in
          let now : IsUnderway agent (after from.0) = subst (λ t. IsUnderway agent t) (sym from.2) way in
          let before = underway-before s.clock place agent from.0 now in
          let old = w.busy n from.0 agent from.1 before in
          subst (λ t. IsBusy (arrived s) agent n t) from.2 (record {
            known = old.known;
            load = load_after agent n from.0 old.known from.1 before old.load;
          });
      loads = λ agent known. elim (w.loads agent known) [
        | inl none ↦
            let h : agent < length s.loads = (let e = w.seats in omega arith) in
            inl (get_or-map (arrived_load tasks) s.loads agent Load.None Load.None h ∙ ap (arrived_load tasks) none)
        | inr has ↦
            let load = load_after agent has.number has.task known has.there has.underway has.load in
            let same = arrived-stops s.clock place has.task in
            elim (cases_lt (visited (after has.task)) (length (after has.task).stops)) [
              | inl more ↦ inr (record {
                number = has.number;
                task = after has.task;
                there = map-at after s.tasks has.number has.task has.there;
                underway = record { agent_is = arrived-agent s.clock place has.task ∙ has.underway.agent_is; more = more };
                load = load;
              })
              | inr over ↦
                  let some : 1 ≤ length (after has.task).stops = rw same (stops has.number has.task has.there) in
                  inl (load ∙ over-load has.number (after has.task) some over)
            ]
      ];
    }

-- loads that are the same are of one task
load-number : (n k agent : ℕ) (task t : Task) → IsUnderway agent task → IsUnderway agent t → load_for n task ≡ load_for k t → n ≡ k
load-number n k agent task t one two e = elim (underway-load n agent task one) [
  | inl f ↦ elim (underway-load k agent t two) [
    | inl g ↦ (let same : Load.Fetching n ≡ Load.Fetching k = sym f ∙ e ∙ g in cc)
    | inr g ↦ absurd (let clash : Load.Fetching n ≡ Load.Carrying k (visited t) = sym f ∙ e ∙ g in cc)
  ]
  | inr f ↦ elim (underway-load k agent t two) [
    | inl g ↦ absurd (let clash : Load.Carrying n (visited task) ≡ Load.Fetching k = sym f ∙ e ∙ g in cc)
    | inr g ↦ (let same : Load.Carrying n (visited task) ≡ Load.Carrying k (visited t) = sym f ∙ e ∙ g in cc)
  ]
]

pub driven-arrived : (site : Site) (s : State) (agent : ℕ) → IsDriven site s agent → IsDriven site (arrived s) agent
driven-arrived site s agent d n task is way =
    let place : ℕ → Cell = λ a. place_of s.paths a in
    let from = map_from (arrived_task s.clock place) s.tasks n task is in
    let now : IsUnderway agent (arrived_task s.clock place from.0) = subst (λ t. IsUnderway agent t) (sym from.2) way in
    let before = underway-before s.clock place agent from.0 now in
    subst (λ t. Delivers (tour site agent (stops_left t)) (path_of s.paths agent)) from.2
    (delivers-arrived site s.clock place agent from.0 (path_of s.paths agent) now (d n from.0 from.1 before))

pub settled-arrived : (s : State) → IsSettled (arrived s)
settled-arrived s = record {
  stuck = λ n task agent is way.
      let place : ℕ → Cell = λ a. place_of s.paths a in
      let from = map_from (arrived_task s.clock place) s.tasks n task is in
      let has : from.0.agent ≡ Some agent = sym (arrived-agent s.clock place from.0) ∙ ap (λ (t : Task). t.agent) from.2 ∙ way.agent_is in
      subst (λ t. stops_here (place_of s.paths agent) (stops_left t) ≡ 0) from.2 (arrived-stuck s.clock place from.0 agent has);
}

-- the clock, the closed flag and the slots play no part
abbrev with_parts : State → State → State
with_parts old new = record new { paths = old.paths; loads = old.loads; tasks = old.tasks }

parts-same : (old new : State) → new.paths ≡ old.paths → new.loads ≡ old.loads → new.tasks ≡ old.tasks → with_parts old new ≡ new
parts-same old new p l t = sym (λ i. record new { paths = p i; loads = l i; tasks = t i })

working-same : (old new : State) → new.paths ≡ old.paths → new.loads ≡ old.loads → new.tasks ≡ old.tasks → IsWorking old → IsWorking new
working-same old new p l t w = subst (λ s. IsWorking s) (parts-same old new p l t) (record {
  seats = w.seats;
  few = w.few;
  fresh = w.fresh;
  known = w.known;
  busy = λ n task agent is way. (let b = w.busy n task agent is way in record { known = b.known; load = b.load });
  loads = λ agent known. elim (w.loads agent known) [
    | inl none ↦ inl none
    | inr has ↦ inr (record { number = has.number; task = has.task; there = has.there; underway = has.underway; load = has.load })
  ];
})

driven-same : (site : Site) (old new : State) (agent : ℕ) → new.paths ≡ old.paths → new.loads ≡ old.loads → new.tasks ≡ old.tasks → IsDriven site old agent → IsDriven site new agent
driven-same site old new agent p l t d = subst (λ s. IsDriven site s agent) (parts-same old new p l t) (λ n task is way. d n task is way)

settled-same : (old new : State) → new.paths ≡ old.paths → new.loads ≡ old.loads → new.tasks ≡ old.tasks → IsSettled old → IsSettled new
settled-same old new p l t settled = subst (λ s. IsSettled s) (parts-same old new p l t) (record { stuck = settled.stuck })

-- an agent with no load has no task to do
pub none-idle : (s : State) (agent n : ℕ) (task : Task) → IsWorking s → load_of s agent ≡ Load.None → IsTask s.tasks n task → IsUnderway agent task → ⊥
none-idle s agent n task w none is way =
    let load = (w.busy n task agent is way).load in
    elim (underway-load n agent task way) [
      | inl e ↦ (let clash : Load.None ≡ Load.Fetching n = sym none ∙ load ∙ e in cc)
      | inr e ↦ (let clash : Load.None ≡ Load.Carrying n (visited task) = sym none ∙ load ∙ e in cc)
    ]

-- an agent with no steps left that goes through the stops of its tasks has none to do
pub rest-idle : (site : Site) (s : State) (agent n : ℕ) (task : Task) → IsSettled s → IsDriven site s agent → steps_left s.paths agent ≡ 0 →
    IsTask s.tasks n task → IsUnderway agent task → ⊥
rest-idle site s agent n task settled d rests is way =
    let some : 1 ≤ length (stops_left task) = (let e = length-drop (visited task) task.stops in let m = way.more in omega arith) in
    stops_here-next (place_of s.paths agent) (stops_left task) (settled.stuck n task agent is way) some
    (sym (homeward-first site.homes (home_of site.layout agent) (stops_left task) some)
    ∙ delivers-resting (tour site agent (stops_left task)) (path_of s.paths agent) (homeward-some site.homes (home_of site.layout agent) (stops_left task) some) rests (d n task is way))

pub rest-unloaded : (site : Site) (s : State) (agent : ℕ) → IsWorking s → IsSettled s → IsDriven site s agent → agent < length s.paths → steps_left s.paths agent ≡ 0 →
    load_of s agent ≡ Load.None
rest-unloaded site s agent w settled d known rests = elim (w.loads agent known) [
  | inl none ↦ none
  | inr has ↦ absurd (rest-idle site s agent has.number has.task settled d rests has.there has.underway)
]

-- so a due agent that goes through the stops of its tasks has no load
pub due-unloaded : (site : Site) (s : State) (agent : ℕ) → IsWorking s → IsSettled s → IsDriven site s agent → IsDue site s agent → load_of s agent ≡ Load.None
due-unloaded site s agent w settled d due = elim due.idle [
  | inl rests ↦ rest-unloaded site s agent w settled d due.known.known rests
  | inr free ↦ free.1
]

path-other : (paths : List (List Cell)) (agent other : ℕ) (path : List Cell) → other ≢ agent → path_of (set paths agent path) other ≡ path_of paths other
path-other paths agent other path ne = get_or-set_other paths agent other path [] ne

-- time goes on by one step
working-moved : (s : State) → IsWorking s → IsWorking (moved s)
working-moved s w = record {
  seats = w.seats ∙ sym (length-map s.paths advanced);
  few = w.few;
  fresh = w.fresh;
  known = λ n task agent is has. (let e = length-map s.paths advanced in let k = w.known n task agent is has in omega arith);
  busy = λ n task agent is way.
      let old = w.busy n task agent is way in
      record { known = (let e = length-map s.paths advanced in let k = old.known in omega arith); load = old.load };
  loads = λ agent known. elim (w.loads agent (let e = length-map s.paths advanced in omega arith)) [
    | inl none ↦ inl none
    | inr has ↦ inr (record { number = has.number; task = has.task; there = has.there; underway = has.underway; load = has.load })
  ];
}

driven-moved : (site : Site) (s : State) (agent : ℕ) → IsWorking s → IsSettled s → IsDriven site s agent → IsDriven site (moved s) agent
driven-moved site s agent w settled d n task is way =
    let some : 1 ≤ length (stops_left task) = (let e = length-drop (visited task) task.stops in let m = way.more in omega arith) in
    let first = homeward-first site.homes (home_of site.layout agent) (stops_left task) some in
    subst (λ p. Delivers (tour site agent (stops_left task)) p) (sym (get_or-map advanced s.paths agent [] [] (w.busy n task agent is way).known))
    (delivers-advanced (tour site agent (stops_left task)) (path_of s.paths agent) (homeward-some site.homes (home_of site.layout agent) (stops_left task) some)
    (λ e. stops_here-next (place_of s.paths agent) (stops_left task) (settled.stuck n task agent is way) some (sym first ∙ e)) (d n task is way))

-- an agent goes by a new path
working-adopted : (s : State) (agent : ℕ) (path : List Cell) → IsWorking s → IsWorking (adopted agent path s)
working-adopted s agent path w = record {
  seats = w.seats ∙ sym (length-set s.paths agent path);
  few = w.few;
  fresh = w.fresh;
  known = λ n task other is has. (let e = length-set s.paths agent path in let k = w.known n task other is has in omega arith);
  busy = λ n task other is way.
      let old = w.busy n task other is way in
      record { known = (let e = length-set s.paths agent path in let k = old.known in omega arith); load = old.load };
  loads = λ other known. elim (w.loads other (let e = length-set s.paths agent path in omega arith)) [
    | inl none ↦ inl none
    | inr has ↦ inr (record { number = has.number; task = has.task; there = has.there; underway = has.underway; load = has.load })
  ];
}

-- another agent goes by a new path
driven-other : (site : Site) (s : State) (agent other : ℕ) (path : List Cell) → other ≢ agent → IsDriven site s other → IsDriven site (adopted agent path s) other
driven-other site s agent other path ne d n task is way =
    subst (λ p. Delivers (tour site other (stops_left task)) p) (sym (path-other s.paths agent other path ne)) (d n task is way)

-- an agent with no load goes by a new path
driven-unloaded : (site : Site) (s : State) (agent : ℕ) (path : List Cell) → IsWorking s → load_of s agent ≡ Load.None → IsDriven site (adopted agent path s) agent
driven-unloaded site s agent path w none n task is way = absurd (none-idle s agent n task w none is way)

settled-adopted : (s : State) (agent : ℕ) (path : List Cell) → agent < length s.paths → at path 0 ≡ place_of s.paths agent → IsSettled s → IsSettled (adopted agent path s)
settled-adopted s agent path known starts settled = record {
  stuck = λ n task other is way. elim (cases_eq other agent) [
    | inr ne ↦ subst (λ p. stops_here (at p 0) (stops_left task) ≡ 0) (sym (path-other s.paths agent other path ne)) (settled.stuck n task other is way)
    | inl e ↦
        let here : place_of (set s.paths agent path) other ≡ place_of s.paths other =
        ap (λ a. place_of (set s.paths agent path) a) e ∙ ap (λ p. at p 0) (get_or-set_same s.paths agent path [] known) ∙ starts ∙ ap (λ a. place_of s.paths a) (sym e) in
        subst (λ c. stops_here c (stops_left task) ≡ 0) (sym here) (settled.stuck n task other is way)
  ];
}

-- a list with one element written: it is the new one, or stood there before
pub set-from : {X : Type 0} (xs : List X) (n : ℕ) (y : X) (k : ℕ) (x : X) → n < length xs → slice_get (set xs n y) k ≡ Some x →
    ((k ≡ n) × (y ≡ x)) ⊎ ((k ≢ n) × (slice_get xs k ≡ Some x))
set-from xs n y k x h is = elim (cases_eq k n) [
  | inl e ↦ inl (e, same_Some y x (sym (slice_get-set_same xs n y h) ∙ subst (λ i. slice_get (set xs n y) i ≡ Some x) e is))
  | inr ne ↦ inr (ne, sym (slice_get-set_other xs n k y ne) ∙ is)
]

-- an agent with no load takes an open task
working-taken : (s : State) (agent n : ℕ) (task : Task) (path : List Cell) → IsWorking s → agent < length s.paths →
    load_of s agent ≡ Load.None → IsTask s.tasks n task → IsOpen task → 1 ≤ length task.stops →
    IsWorking (adopted agent path (assigned agent n task s))
working-taken s agent n task path w here none there is_open some =
    let given : Task = record task { agent = Some agent } in
    let number : n < length s.tasks = slice_get_within s.tasks n task there in
    let unvisited : visited task ≡ 0 = w.fresh n task there is_open in
    let seat : agent < length s.loads = (let e = w.seats in omega arith) in
    let size = length-set s.paths agent path in
    let idle : (k : ℕ) (t : Task) (a : ℕ) → IsTask s.tasks k t → IsUnderway a t → a ≢ agent =
    λ k t a is way e. none-idle s agent k t w none is (subst (λ b. IsUnderway b t) e way) in
    let load_other : (a : ℕ) → a ≢ agent → get_or (set s.loads agent (Load.Fetching n)) a Load.None ≡ load_of s a =
    λ a ne. get_or-set_other s.loads agent a (Load.Fetching n) Load.None ne in
    record {
      seats = length-set s.loads agent (Load.Fetching n) ∙ w.seats ∙ sym size;
      few = λ k t is. elim (set-from s.tasks n given k t number is) [
        | inl new ↦ subst (λ (u : Task). visited u ≤ length u.stops) new.1 (w.few n task there)
        | inr old ↦ w.few k t old.1
      ];
      fresh = λ k t is open_now. elim (set-from s.tasks n given k t number is) [
        | inl new ↦ absurd (let clash : Some agent ≡ None = ap (λ (u : Task). u.agent) new.1 ∙ open_now in cc)
        | inr old ↦ w.fresh k t old.1 open_now
      ];
      known = λ k t a is has. elim (set-from s.tasks n given k t number is) [
        | inl new ↦
            let same : agent ≡ a = same_Some agent a (ap (λ (u : Task). u.agent) new.1 ∙ has) in
            omega arith
        | inr old ↦ (let h = w.known k t a old.1 has in omega arith)
      ];
      busy = λ k t a is way. elim (set-from s.tasks n given k t number is) [
        | inl new ↦
            let same : agent ≡ a = same_Some agent a (ap (λ (u : Task). u.agent) new.1 ∙ way.agent_is) in
            let busy : IsBusy (adopted agent path (assigned agent n task s)) agent n given = record {
              known = omega arith;
              load = get_or-set_same s.loads agent (Load.Fetching n) Load.None seat ∙ sym (unvisited-load n agent given refl unvisited);
            } in
            subst (λ b. IsBusy (adopted agent path (assigned agent n task s)) b k t) same
            (subst (λ u. IsBusy (adopted agent path (assigned agent n task s)) agent k u) new.1
            (subst (λ m. IsBusy (adopted agent path (assigned agent n task s)) agent m given) (sym new.0) busy))
        | inr old ↦
            let before = w.busy k t a old.1 way in
            let ne = idle k t a old.1 way in
            record {
              known = (let h = before.known in omega arith);
              load = load_other a ne ∙ before.load;
            }
      ];
      loads = λ a known. elim (cases_eq a agent) [
        | inl e ↦ inr (record {
          number = n;
          task = given;
          there = slice_get-set_same s.tasks n given number;
          underway = record { agent_is = ap (λ b. Some b) (sym e); more = omega arith };
          load = rw e (get_or-set_same s.loads agent (Load.Fetching n) Load.None seat ∙ sym (unvisited-load n agent given refl unvisited));
        })
        | inr ne ↦ elim (w.loads a (omega arith)) [
          | inl nothing ↦ inl (load_other a ne ∙ nothing)
          | inr has ↦ inr (record {
            number = has.number;
            task = has.task;
            there =
                let apart : has.number ≢ n = λ e.
                let one : task ≡ has.task = same_Some task has.task (sym there ∙ subst (λ i. slice_get s.tasks i ≡ Some has.task) e has.there) in
                let clash : None ≡ Some a = sym is_open ∙ ap (λ (u : Task). u.agent) one ∙ has.underway.agent_is in
                cc in
                slice_get-set_other s.tasks n has.number given apart ∙ has.there;
            underway = has.underway;
            load = load_other a ne ∙ has.load;
          })
        ]
      ];
    }

pub driven-taken : (site : Site) (s : State) (agent n : ℕ) (task : Task) (path : List Cell) → IsWorking s → agent < length s.paths →
    load_of s agent ≡ Load.None → IsTask s.tasks n task → Delivers (tour site agent (stops_left task)) path → IsDriven site (adopted agent path (assigned agent n task s)) agent
driven-taken site s agent n task path w here none there serves k t is way =
    let given : Task = record task { agent = Some agent } in
    elim (set-from s.tasks n given k t (slice_get_within s.tasks n task there) is) [
      | inl new ↦
          subst (λ (u : Task). Delivers (tour site agent (stops_left u)) (path_of (set s.paths agent path) agent)) new.1
          (subst (λ p. Delivers (tour site agent (stops_left task)) p) (sym (get_or-set_same s.paths agent path [] here)) serves)
      | inr old ↦ absurd (none-idle s agent k t w none old.1 way)
    ]

driven-beside : (site : Site) (s : State) (agent other n : ℕ) (task : Task) (path : List Cell) → other ≢ agent → IsTask s.tasks n task → IsDriven site s other →
    IsDriven site (adopted agent path (assigned agent n task s)) other
driven-beside site s agent other n task path ne there d k t is way =
    let given : Task = record task { agent = Some agent } in
    elim (set-from s.tasks n given k t (slice_get_within s.tasks n task there) is) [
      | inl new ↦ absurd (ne (sym (same_Some agent other (ap (λ (u : Task). u.agent) new.1 ∙ way.agent_is))))
      | inr old ↦ subst (λ p. Delivers (tour site other (stops_left t)) p) (sym (path-other s.paths agent other path ne)) (d k t old.1 way)
    ]

-- an agent goes by a path through the stops that are left of the task that it has, and it has no other
pub driven-continued : (site : Site) (s : State) (agent n : ℕ) (task : Task) (path : List Cell) → IsWorking s → agent < length s.paths → IsTask s.tasks n task → IsUnderway agent task →
    Delivers (tour site agent (stops_left task)) path → IsDriven site (adopted agent path s) agent
driven-continued site s agent n task path w here there way serves k t is other =
    let one = (w.busy n task agent there way).load in
    let two = (w.busy k t agent is other).load in
    let same : n ≡ k = load-number n k agent task t way other (sym one ∙ two) in
    let task_is : task ≡ t = same_Some task t (sym there ∙ ap (λ i. slice_get s.tasks i) same ∙ is) in
    subst (λ (u : Task). Delivers (tour site agent (stops_left u)) (path_of (set s.paths agent path) agent)) task_is
    (subst (λ p. Delivers (tour site agent (stops_left task)) p) (sym (get_or-set_same s.paths agent path [] here)) serves)

-- a task is added
pub added-from : {X : Type 0} (xs : List X) (y : X) (k : ℕ) (x : X) → slice_get (xs ++ y ∷ []) k ≡ Some x → (y ≡ x) ⊎ (slice_get xs k ≡ Some x)
added-from xs y k x is = elim (slice_get_push xs y k x is) [ inl there ↦ inr there | inr last ↦ inl last.1 ]

working-added : (s : State) (client : List ℕ) (cells : List Cell) → IsWorking s → IsWorking (submitted client cells s)
working-added s client cells w =
    let new : Task = record { client = client; stops = cells; submitted = s.clock; agent = None; visits = [] } in
    let none : (a : ℕ) (t : Task) → new ≡ t → t.agent ≡ Some a → ⊥ = λ a t e has. (let clash : None ≡ Some a = ap (λ (u : Task). u.agent) e ∙ has in cc) in
    record {
      seats = w.seats;
      few = λ k t is. elim (added-from s.tasks new k t is) [
        | inl e ↦ subst (λ (u : Task). visited u ≤ length u.stops) e (omega arith)
        | inr old ↦ w.few k t old
      ];
      fresh = λ k t is is_open. elim (added-from s.tasks new k t is) [
        | inl e ↦ subst (λ (u : Task). visited u ≡ 0) e refl
        | inr old ↦ w.fresh k t old is_open
      ];
      known = λ k t a is has. elim (added-from s.tasks new k t is) [
        | inl e ↦ absurd (none a t e has)
        | inr old ↦ w.known k t a old has
      ];
      busy = λ k t a is way. elim (added-from s.tasks new k t is) [
        | inl e ↦ absurd (none a t e way.agent_is)
        | inr old ↦ (let b = w.busy k t a old way in record { known = b.known; load = b.load })
      ];
      loads = λ a known. elim (w.loads a known) [
        | inl nothing ↦ inl nothing
        | inr has ↦ inr (record {
          number = has.number;
          task = has.task;
          there = slice_get-append s.tasks (new ∷ []) has.number has.task has.there;
          underway = has.underway;
          load = has.load;
        })
      ];
    }

driven-added : (site : Site) (s : State) (client : List ℕ) (cells : List Cell) (a : ℕ) → IsDriven site s a → IsDriven site (submitted client cells s) a
driven-added site s client cells a d k t is way = elim (added-from s.tasks _ k t is) [
  | inl e ↦ absurd (let clash : None ≡ Some a = ap (λ (u : Task). u.agent) e ∙ way.agent_is in cc)
  | inr old ↦ d k t old way
]

settled-added : (s : State) (client : List ℕ) (cells : List Cell) → IsSettled s → IsSettled (submitted client cells s)
settled-added s client cells settled = record {
  stuck = λ k t a is way. elim (added-from s.tasks _ k t is) [
    | inl e ↦ absurd (let clash : None ≡ Some a = ap (λ (u : Task). u.agent) e ∙ way.agent_is in cc)
    | inr old ↦ settled.stuck k t a old way
  ];
}

-- what a state of a run keeps of its paths, its loads and its tasks
pub record IsKept (site : Site) (s : State) : Type 0 where
  pub orderly : IsOrderly site s
  pub working : IsWorking s
  pub settled : IsSettled s

pub have-stops : (site : Site) (s : State) → IsOrderly site s → AllHaveStops s
have-stops site s orderly n task is = (let c = (orderly.stops n task is).count in omega arith)

working-moves : (site : Site) (old new : State) → IsKept site old → Moves site old new → IsWorking new
working-moves site old new kept m = elim m [
  | stays c p l t z ↦ working-same old new p l t kept.working
  | adds client names cells room count few stations e ↦ subst (λ s. IsWorking s) (sym e) (working-added old client cells kept.working)
  | takes agent n task path due none next lawful e ↦
      let there = next.eligible.there in
      let some : 1 ≤ length task.stops = have-stops site old kept.orderly n task there in
      let taken = adopted agent path (assigned agent n task old) in
      let stops : AllHaveStops taken = λ k t is. elim (set-from old.tasks n (record task { agent = Some agent }) k t (slice_get_within old.tasks n task there) is) [
        | inl new_one ↦ subst (λ (u : Task). 1 ≤ length u.stops) new_one.1 some
        | inr before ↦ have-stops site old kept.orderly k t before.1
      ] in
      subst (λ s. IsWorking s) (sym e) (working-arrived taken stops
      (working-taken old agent n task path kept.working due.known.known none there next.eligible.is_open some))
  | continues agent n task path due own lawful e ↦
      subst (λ s. IsWorking s) (sym e) (working-arrived (adopted agent path old) (have-stops site old kept.orderly) (working-adopted old agent path kept.working))
  | parks agent path due way lawful e ↦ subst (λ s. IsWorking s) (sym e) (working-adopted old agent path kept.working)
  | ticks fits e ↦
      subst (λ s. IsWorking s) (sym e) (working-arrived (moved old) (have-stops site old kept.orderly) (working-moved old kept.working))
]

settled-moves : (site : Site) (old new : State) → IsKept site old → Moves site old new → IsSettled new
settled-moves site old new kept m = elim m [
  | stays c p l t z ↦ settled-same old new p l t kept.settled
  | adds client names cells room count few stations e ↦ subst (λ s. IsSettled s) (sym e) (settled-added old client cells kept.settled)
  | takes agent n task path due none next lawful e ↦ subst (λ s. IsSettled s) (sym e) (settled-arrived (adopted agent path (assigned agent n task old)))
  | continues agent n task path due own lawful e ↦ subst (λ s. IsSettled s) (sym e) (settled-arrived (adopted agent path old))
  | parks agent path due way lawful e ↦ subst (λ s. IsSettled s) (sym e) (settled-adopted old agent path due.known.known lawful.starts_here kept.settled)
  | ticks fits e ↦ subst (λ s. IsSettled s) (sym e) (settled-arrived (moved old))
]

pub kept-moves : (site : Site) (old new : State) → IsKept site old → Moves site old new → IsKept site new
kept-moves site old new kept m = record {
  orderly = orderly-moves site old new kept.orderly m;
  working = working-moves site old new kept m;
  settled = settled-moves site old new kept m;
}

pub driven-moves : (site : Site) (old new : State) (agent : ℕ) → IsKept site old → agent < length old.paths → IsDriven site old agent → Moves site old new → IsDriven site new agent
driven-moves site old new agent kept known d m = elim m [
  | stays c p l t z ↦ driven-same site old new agent p l t d
  | adds client names cells room count few stations e ↦ subst (λ s. IsDriven site s agent) (sym e) (driven-added site old client cells agent d)
  | takes a n task path due none next lawful e ↦
      subst (λ s. IsDriven site s agent) (sym e) (driven-arrived site (adopted a path (assigned a n task old)) agent (elim (cases_eq agent a) [
        | inl same ↦ subst (λ i. IsDriven site (adopted a path (assigned a n task old)) i) (sym same)
            (driven-taken site old a n task path kept.working due.known.known none next.eligible.there lawful.serves)
        | inr ne ↦ driven-beside site old a agent n task path ne next.eligible.there d
      ]))
  | continues a n task path due own lawful e ↦
      let way : IsUnderway a task = record { agent_is = own.agent_is; more = own.left } in
      subst (λ s. IsDriven site s agent) (sym e) (driven-arrived site (adopted a path old) agent (elim (cases_eq agent a) [
        | inl same ↦ subst (λ i. IsDriven site (adopted a path old) i) (sym same)
            (driven-continued site old a n task path kept.working due.known.known own.there way lawful.serves)
        | inr ne ↦ driven-other site old a agent path ne d
      ]))
  | parks a path due way lawful e ↦
      subst (λ s. IsDriven site s agent) (sym e) (elim (cases_eq agent a) [
        | inl same ↦
            let d_a : IsDriven site old a = subst (λ i. IsDriven site old i) same d in
            subst (λ i. IsDriven site (adopted a path old) i) (sym same)
            (driven-unloaded site old a path kept.working (due-unloaded site old a kept.working kept.settled d_a due))
        | inr ne ↦ driven-other site old a agent path ne d
      ])
  | ticks fits e ↦ subst (λ s. IsDriven site s agent) (sym e) (driven-arrived site (moved old) agent (driven-moved site old agent kept.working kept.settled d))
]

pub no-task : (n : ℕ) (task : Task) → IsTask [] n task → ⊥
no-task n task is = (let e : None ≡ Some task = is in cc)

working-opened : (site : Site) (clock : ℕ) (slots : List ℕ) → IsWorking (opened site.layout clock slots)
working-opened site clock slots =
    let cells = starts site.layout in
    let paths = length-map cells (λ (c : Cell). c ∷ []) in
    let loads = length-map cells (λ (c : Cell). Load.None) in
    record {
      seats = loads ∙ sym paths;
      few = λ n task is. absurd (no-task n task is);
      fresh = λ n task is is_open. absurd (no-task n task is);
      known = λ n task agent is has. absurd (no-task n task is);
      busy = λ n task agent is way. absurd (no-task n task is);
      loads = λ agent known.
          let h : agent < length cells = omega arith in
          inl (get_or-map (λ (c : Cell). Load.None) cells agent (record { x = 0; y = 0 }) Load.None h);
    }

pub kept-opening : (site : Site) (s : State) → IsOpening site s → IsKept site s
kept-opening site s o = record {
  orderly = orderly-opening site s o;
  working = subst (λ t. IsWorking t) (sym o.is_opened) (working-opened site o.clock o.slots);
  settled = subst (λ t. IsSettled t) (sym o.is_opened) (record { stuck = λ n task agent is way. absurd (no-task n task is) });
}
