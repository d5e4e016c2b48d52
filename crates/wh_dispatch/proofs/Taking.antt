-- what a step does to the tasks that agents have, and so to those that are kept
use Rattle.std.proofs.Common.{◌≡◌, ◌≢◌, ◌⊎◌, ℕ, ◌+◌, ◌<◌, ◌≤◌, ◌∙◌, inl, inr, List, [], ◌∷◌, ◌++◌, length, Option, Some, None, sym, subst, refl, ap, arith, append-nil, length-append, Bool, true, false, cond}
use Rattle.std.specs.Prelude.{Contains, slice_get, ◌==◌, ◌||◌}
use Rattle.std.specs.List.{AllPairs}
use Rattle.std.proofs.Math.ListN.{set}
use Rattle.std.proofs.Math.Bool.{or-true}
use Rattle.std.proofs.lemmas.Bool.{eq-eqb, ne_eqb}
use Rattle.std.proofs.lemmas.Option.{same_Some, slice_get_within}
use Rattle.std.proofs.lemmas.List.Elements.{Contains-append_left, Contains-append_right, Contains-append_cases}
use Rattle.wh_grid.specs.declared.cell.Cell.{Cell}
use Rattle.wh_grid.specs.Grids.{Floor}
use Rattle.wh_points.specs.Points.{Site}
use Rattle.wh_tasks.specs.declared.task.Load.{Load}
use Rattle.wh_tasks.specs.declared.task.Task.{Task}
use Rattle.wh_tasks.specs.Tasks.{IsTask, visited}
use Rattle.wh_tasks.specs.Arrivals.{arrived_task, arrived_tasks}
use Rattle.wh_tasks.proofs.Visiting.{arrived-agent, arrived-stops}
use Rattle.wh_event.specs.declared.event.Command.{Command}
use Rattle.wh_event.specs.declared.event.Command.TheVariants.{Tick}
use Rattle.wh_event.specs.declared.event.Event.{Event}
use Rattle.wh_event.specs.declared.event.Spare.{Spare}
use Rattle.wh_event.specs.declared.entry.Entry.{Entry}
use Rattle.wh_event.specs.declared.reply.Reply.{Reply}
use Rattle.wh_core.specs.States.{State, load_of, arrived, adopted, assigned}
use Rattle.wh_core.specs.Steps.{Answers, IsOwn, IsNextBy, Step, Run}
use Rattle.wh_core.proofs.StepKinds.{continued-fetching, continued-carrying}
use Rattle.wh_core.proofs.Later.{AllLater, later-run, all_later-same}
use Rattle.wh_core.proofs.Lists.{slice_get-set_same, map-at, map_from}
use Rattle.wh_core.proofs.Work.{set-from, added-from}
use Rattle.wh_token.specs.Commands.{event_of}
use Rattle.wh_token.specs.Runs as runs
use Rattle.wh_token.specs.Runs.{Ran}
use Rattle.wh_vehicles.specs.Visits.{Visit}
use Rattle.wh_dispatch.specs.declared.visits.Pending.{Pending}
use Rattle.wh_dispatch.specs.Crews.{IsWatched, IsKept, AreWatched}
use Rattle.wh_dispatch.specs.Visiting.{stops_of, taken_in, with_stops, taken_first, has_task, added_to, kept_first}
use Rattle.wh_dispatch.proofs.Members.{in_cons, none_in, first_in, later_in, pairs_nil, pairs_join}
use Rattle.wh_dispatch.proofs.Watching.{visit}

-- the agent had the task before, with this many stops
pub record HadTask (old : List Task) (n agent : ℕ) (task : Task) : Type 0 where
  pub before : Task
  pub is_task : IsTask old n before
  pub agent_is : before.agent ≡ Some agent
  pub stops : length before.stops ≡ length task.stops

-- a task that was taken: it was open, and has its agent now
pub record IsTaken (old new : List Task) (p : Pending) : Type 0 where
  pub before : Task
  pub was : IsTask old p.task before
  pub was_open : before.agent ≡ None
  pub task : Task
  pub is_task : IsTask new p.task task
  pub agent_is : task.agent ≡ Some p.agent
  pub stops_are : p.stops ≡ length task.stops
  pub untold : p.told ≡ 0

-- Tasks have gone on; those were taken that are added, and no others.
pub record Takes (old new : List Task) (added : List Pending) : Type 0 where
  pub later : AllLater old new
  pub once : AllPairs (λ p q. p.task ≢ q.task) added
  pub taken : (p : Pending) → Contains added p → IsTaken old new p
  pub from : (n agent : ℕ) (task : Task) → IsTask new n task → task.agent ≡ Some agent → IsKept added n ⊎ HadTask old n agent task

module _ (old new : List Task) where
  -- no task was taken
  takes_none : AllLater old new → ((n agent : ℕ) (task : Task) → IsTask new n task → task.agent ≡ Some agent → HadTask old n agent task) → Takes old new []
  takes_none later from = record {
    later = later;
    once = pairs_nil (λ (p q : Pending). p.task ≢ q.task);
    taken = λ p c. absurd (none_in p c);
    from = λ n agent task is has. inr (from n agent task is has);
  }

  takes_same : new ≡ old → Takes old new []
  takes_same e = takes_none (all_later-same old new e) (λ n agent task is has. record {
    before = task;
    is_task = subst (λ (ts : List Task). IsTask ts n task) e is;
    agent_is = has;
    stops = refl;
  })

arrived_from : (clock : ℕ) (place : ℕ → Cell) (old : List Task) (n agent : ℕ) (task : Task) → IsTask (arrived_tasks clock place old) n task → task.agent ≡ Some agent → HadTask old n agent task
arrived_from clock place old n agent task is has =
    let at = map_from (arrived_task clock place) old n task is in
    record {
      before = at.0;
      is_task = at.1;
      agent_is = sym (arrived-agent clock place at.0) ∙ ap (λ (t : Task). t.agent) at.2 ∙ has;
      stops = ap (λ (cells : List Cell). length cells) (sym (arrived-stops clock place at.0) ∙ ap (λ (t : Task). t.stops) at.2);
    }

had_through : (old mid : List Task) (n agent : ℕ) (task : Task) → (h : HadTask mid n agent task) → HadTask old n agent h.before → HadTask old n agent task
had_through old mid n agent task h k = record { before = k.before; is_task = k.is_task; agent_is = k.agent_is; stops = k.stops ∙ h.stops }

later-step : (site : Site) (old : State) (reply : Reply) (event : Event) (new : State) → Answers site old reply event new → AllLater old.tasks new.tasks
later-step site old reply event new step = later-run site old (record { caller = 0; event = event; reply = reply } ∷ []) new (new, step, refl)

-- an open task that an agent takes, with the arrivals then
takes_one : (old : List Task) (n agent : ℕ) (task : Task) (clock : ℕ) (place : ℕ → Cell) (new : List Task) → AllLater old new → IsTask old n task → task.agent ≡ None →
    new ≡ arrived_tasks clock place (set old n (record task { agent = Some agent })) →
    Takes old new (record { agent = agent; task = n; stops = stops_of (slice_get new n); told = 0 } ∷ [])
takes_one old n agent task clock place new later there is_open e =
    let given : Task = record task { agent = Some agent } in
    let within = slice_get_within old n task there in
    let there_now : IsTask new n (arrived_task clock place given) =
    subst (λ (ts : List Task). IsTask ts n (arrived_task clock place given)) (sym e) (map-at (arrived_task clock place) (set old n given) n given (slice_get-set_same old n given within)) in
    let p : Pending = record { agent = agent; task = n; stops = stops_of (slice_get new n); told = 0 } in
    record {
      later = later;
      once = λ i j d below inside. absurd (omega arith);
      taken = λ q c. elim (in_cons p [] q c) [
        | inl is ↦ subst (λ (r : Pending). IsTaken old new r) is (record {
          before = task;
          was = there;
          was_open = is_open;
          task = arrived_task clock place given;
          is_task = there_now;
          agent_is = arrived-agent clock place given;
          stops_are = ap stops_of there_now;
          untold = refl;
        })
        | inr none ↦ absurd (none_in q none)
      ];
      from = λ k a t is has.
          let h = arrived_from clock place (set old n given) k a t (subst (λ (ts : List Task). IsTask ts k t) e is) has in
          elim (set-from old n given k h.before within h.is_task) [
            | inl same ↦ inl (p, first_in p [], sym same.0)
            | inr other ↦ inr (record { before = h.before; is_task = other.1; agent_is = h.agent_is; stops = h.stops })
          ];
    }

-- an agent goes on with its own task, and nobody's changes
takes_again : (old new : State) (agent : ℕ) (path : List Cell) → AllLater old.tasks new.tasks → new ≡ arrived (adopted agent path old) → Takes old.tasks new.tasks []
takes_again old new agent path later e =
    takes_none old.tasks new.tasks later (λ k a t is has. arrived_from _ _ old.tasks k a t (subst (λ (s : State). IsTask s.tasks k t) e is) has)

-- ---- whether a task is kept

found : (pending : List Pending) (p : Pending) → Contains pending p → has_task pending p.task ≡ true
found [] p c = absurd (none_in p c)
found (q ∷ pending) p c = elim (in_cons q pending p c) [
  | inl e ↦ ap (λ b. b || has_task pending p.task) (eq-eqb q.task p.task (ap (λ (r : Pending). r.task) e))
  | inr there ↦ ap (λ b. (q.task == p.task) || b) (found pending p there) ∙ or-true (q.task == p.task)
]

not_found : (pending : List Pending) (n : ℕ) → ((p : Pending) → Contains pending p → p.task ≢ n) → has_task pending n ≡ false
not_found [] n none = refl
not_found (q ∷ pending) n none =
    ap (λ b. b || has_task pending n) (ne_eqb q.task n (none q (first_in q pending))) ∙ not_found pending n (λ p c. none p (later_in q pending p c))

module _ (site : Site) (old : State) (IsTold : Visit → Type 0) (pending : List Pending) (w : AreWatched old IsTold pending)
    (made : (n agent number : ℕ) (task : Task) → IsTask old.tasks n task → IsTold (visit agent n number) → number < visited task) where
  -- a task that nobody has is not kept
  open_unkept : (n : ℕ) (task : Task) → IsTask old.tasks n task → task.agent ≡ None → has_task pending n ≡ false
  open_unkept n task is is_open = not_found pending n (λ p c same.
      let one = w.each p c in
      let here : one.task ≡ task = same_Some one.task task (sym one.is_task ∙ subst (λ k. IsTask old.tasks k task) (sym same) is) in
      let clash : Some p.agent ≡ None = sym one.agent_is ∙ ap (λ (t : Task). t.agent) here ∙ is_open in
      cc)

  -- of an agent's own task a visit is left, so it is kept
  own_kept : (agent n : ℕ) (task : Task) → IsOwn old agent n task → has_task pending n ≡ true
  own_kept agent n task own = elim (w.all n task agent own.there own.agent_is) [
    | inl kept ↦ subst (λ k. has_task pending k ≡ true) kept.2 (found pending kept.0 kept.1)
    | inr told ↦ absurd (let less = made n agent (visited task) task own.there (told (visited task) own.left) in omega arith)
  ]

  -- what is kept of the task that an agent takes
  abbrev added : ℕ → ℕ → State → List Pending
  added agent n new = added_to pending (Some (record { agent = agent; task = n; stops = stops_of (slice_get new.tasks n); told = 0 }))

  added_own : (agent n : ℕ) (task : Task) (path : List Cell) (new : State) → AllLater old.tasks new.tasks → IsOwn old agent n task → new ≡ arrived (adopted agent path old) →
      Takes old.tasks new.tasks (added agent n new)
  added_own agent n task path new later own e =
      let p : Pending = record { agent = agent; task = n; stops = stops_of (slice_get new.tasks n); told = 0 } in
      subst (λ b. Takes old.tasks new.tasks (cond b [] (p ∷ []))) (sym (own_kept agent n task own)) (takes_again old new agent path later e)

  takes_next : (agent n : ℕ) (task : Task) (path : List Cell) (new : State) → AllLater old.tasks new.tasks → new ≡ arrived (adopted agent path (assigned agent n task old)) →
      (load : Load) → load_of old agent ≡ load → IsNextBy load site old agent n task → Takes old.tasks new.tasks (added agent n new)
  takes_next agent n task path new later e Load.None is next =
      let p : Pending = record { agent = agent; task = n; stops = stops_of (slice_get new.tasks n); told = 0 } in
      subst (λ b. Takes old.tasks new.tasks (cond b [] (p ∷ []))) (sym (open_unkept n task next.eligible.there next.eligible.is_open))
      (takes_one old.tasks n agent task _ _ new.tasks later next.eligible.there next.eligible.is_open (ap (λ (s : State). s.tasks) e))
  takes_next agent n task path new later e (Load.Fetching m) is next = added_own agent n task path new later next.1 (e ∙ continued-fetching old agent n m task path next.0 next.1 is)
  takes_next agent n task path new later e (Load.Carrying m seen) is next = added_own agent n task path new later next.1 (e ∙ continued-carrying old agent n m seen task path next.0 next.1 is)

  takes_by : (reply : Reply) (event : Event) (new : State) → Answers site old reply event new → Takes old.tasks new.tasks (added_to pending (with_stops new.tasks (taken_in reply event)))
  takes_by (Reply.Refused refusal) event new step = takes_same old.tasks new.tasks (ap (λ (s : State). s.tasks) step.1)
  takes_by (Reply.Accepted n) (Event.Submit client stops) new step =
      takes_none old.tasks new.tasks (later-step site old (Reply.Accepted n) (Event.Submit client stops) new step) (λ k agent task is has.
      elim (added-from old.tasks _ k task (subst (λ (s : State). IsTask s.tasks k task) step.5.2 is)) [
        | inl last ↦ absurd (let clash : None ≡ Some agent = ap (λ (t : Task). t.agent) last ∙ has in cc)
        | inr there ↦ record { before = task; is_task = there; agent_is = has; stops = refl }
      ])
  takes_by (Reply.Took n path) (Event.Request agent) new step =
      takes_next agent n step.1.0 path new (later-step site old (Reply.Took n path) (Event.Request agent) new step) step.1.3 (load_of old agent) refl step.1.1
  takes_by Reply.Rested (Event.Request agent) new step = takes_same old.tasks new.tasks (ap (λ (s : State). s.tasks) step.3)
  takes_by (Reply.Parked point path) (Event.Request agent) new step = takes_same old.tasks new.tasks (ap (λ (s : State). s.tasks) step.4)
  takes_by (Reply.Clock now first last) Event.Tick new step =
      takes_none old.tasks new.tasks (later-step site old (Reply.Clock now first last) Event.Tick new step) (λ k agent task is has.
      arrived_from _ _ old.tasks k agent task (subst (λ (s : State). IsTask s.tasks k task) step.5 is) has)
  takes_by (Reply.Replaced slots) (Event.Replace agent (Spare.Fits count)) new step = takes_same old.tasks new.tasks (ap (λ (s : State). s.tasks) step.2)
  takes_by Reply.Closed Event.Close new step = takes_same old.tasks new.tasks (ap (λ (s : State). s.tasks) step.1)
  takes_by reply event new step = absurd step

  -- one command
  pub takes_ran : {X : Type 0} (fits : X → Floor → Bool) (count : X → ℕ) (caller : ℕ) (c : Command) (os : List (Option Entry)) (spares : List X) (new : State) (rest : List X) →
      Ran fits count site caller (c ∷ []) os old spares new rest → Takes old.tasks new.tasks (kept_first pending (runs.entries_of os) new.tasks)
  takes_ran fits count caller c [] spares new rest p = absurd p
  takes_ran fits count caller c (None ∷ []) spares new rest p = takes_same old.tasks new.tasks (ap (λ (t : State). t.tasks) (p.3.0 ∙ p.2.0))
  takes_ran fits count caller c (Some entry ∷ []) spares new rest p =
      takes_by entry.reply entry.event new (subst (λ (t : State). Answers site old entry.reply entry.event t) (sym p.3.0) p.2.1)
  takes_ran fits count caller c (o ∷ more ∷ os) spares new rest p = absurd p.3

-- each task of an agent was the agent's before, with the same visits
abbrev pub AreAsBefore : List Task → List Task → Type 0
AreAsBefore old new = (n agent : ℕ) (task : Task) → IsTask new n task → task.agent ≡ Some agent → IsTask old n task

as_before : (old new : List Task) → new ≡ old → AreAsBefore old new
as_before old new e n agent task is has = subst (λ (ts : List Task). IsTask ts n task) e is

-- where the clock stays and nothing is taken, no visits are made
before_by : (site : Site) (old : State) (reply : Reply) (event : Event) (new : State) → Answers site old reply event new → new.clock ≡ old.clock → with_stops new.tasks (taken_in reply event) ≡ None →
    AreAsBefore old.tasks new.tasks
before_by site old (Reply.Refused refusal) event new step still none = as_before old.tasks new.tasks (ap (λ (s : State). s.tasks) step.1)
before_by site old (Reply.Accepted n) (Event.Submit client stops) new step still none = λ k agent task is has.
    elim (added-from old.tasks _ k task (subst (λ (s : State). IsTask s.tasks k task) step.5.2 is)) [
      | inl last ↦ absurd (let clash : None ≡ Some agent = ap (λ (t : Task). t.agent) last ∙ has in cc)
      | inr there ↦ there
    ]
before_by site old (Reply.Took n path) (Event.Request agent) new step still none = absurd (let clash : Some (record { agent = agent; task = n; stops = stops_of (slice_get new.tasks n); told = 0 }) ≡ None = none in cc)
before_by site old Reply.Rested (Event.Request agent) new step still none = as_before old.tasks new.tasks (ap (λ (s : State). s.tasks) step.3)
before_by site old (Reply.Parked point path) (Event.Request agent) new step still none = as_before old.tasks new.tasks (ap (λ (s : State). s.tasks) step.4)
before_by site old (Reply.Clock now first last) Event.Tick new step still none = absurd (let later : new.clock ≡ old.clock + 1 = ap (λ (s : State). s.clock) step.5 in omega arith)
before_by site old (Reply.Replaced slots) (Event.Replace agent (Spare.Fits count)) new step still none = as_before old.tasks new.tasks (ap (λ (s : State). s.tasks) step.2)
before_by site old Reply.Closed Event.Close new step still none = as_before old.tasks new.tasks (ap (λ (s : State). s.tasks) step.1)
before_by site old reply event new step still none = absurd step

pub before_ran : {X : Type 0} (fits : X → Floor → Bool) (count : X → ℕ) (caller : ℕ) (site : Site) (c : Command) (os : List (Option Entry)) (s : State) (spares : List X) (new : State) (rest : List X) →
    Ran fits count site caller (c ∷ []) os s spares new rest → new.clock ≡ s.clock → taken_first (runs.entries_of os) new.tasks ≡ None → AreAsBefore s.tasks new.tasks
before_ran fits count caller site c [] s spares new rest p still none = absurd p
before_ran fits count caller site c (None ∷ []) s spares new rest p still none = as_before s.tasks new.tasks (ap (λ (t : State). t.tasks) (p.3.0 ∙ p.2.0))
before_ran fits count caller site c (Some entry ∷ []) s spares new rest p still none =
    before_by site s entry.reply entry.event new (subst (λ (t : State). Answers site s entry.reply entry.event t) (sym p.3.0) p.2.1) still none
before_ran fits count caller site c (o ∷ more ∷ os) s spares new rest p still none = absurd p.3

-- a tick takes no task
none_in_tick : (reply : Reply) → taken_in reply Event.Tick ≡ None
none_in_tick (Reply.Refused refusal) = refl
none_in_tick (Reply.Accepted n) = refl
none_in_tick (Reply.Took n path) = refl
none_in_tick Reply.Rested = refl
none_in_tick (Reply.Parked point path) = refl
none_in_tick (Reply.Clock now first last) = refl
none_in_tick (Reply.Replaced slots) = refl
none_in_tick Reply.Closed = refl

tick_event : (c : Command) (told : Spare) → c ≡ Tick → event_of c told ≡ Event.Tick
tick_event c told e = ap (λ (d : Command). event_of d told) e

pub none_by_tick : {X : Type 0} (fits : X → Floor → Bool) (count : X → ℕ) (caller : ℕ) (site : Site) (c : Command) (os : List (Option Entry)) (s : State) (spares : List X) (new : State) (rest : List X) →
    Ran fits count site caller (c ∷ []) os s spares new rest → c ≡ Tick → taken_first (runs.entries_of os) new.tasks ≡ None
none_by_tick fits count caller site c [] s spares new rest p e = absurd p
none_by_tick fits count caller site c (None ∷ []) s spares new rest p e = refl
none_by_tick fits count caller site c (Some entry ∷ []) s spares new rest p e =
    ap (λ (event : Event). with_stops new.tasks (taken_in entry.reply event)) (p.2.2.1 ∙ tick_event c p.2.2.0 e) ∙ ap (λ (o : Option Pending). with_stops new.tasks o) (none_in_tick entry.reply)
none_by_tick fits count caller site c (o ∷ more ∷ os) s spares new rest p e = absurd p.3

-- the last step of a run
run_last : (site : Site) (old : State) (front : List Entry) (entry : Entry) (new : State) → Run site old (front ++ entry ∷ []) new →
    (mid : State) × Run site old front mid × Step site mid entry new
run_last site old [] entry new run = (old, refl, subst (λ (s : State). Step site old entry s) (sym run.2) run.1)
run_last site old (first ∷ front) entry new run = (let last = run_last site run.0 front entry new run.2 in (last.0, (run.0, run.1, last.1), last.2))

last_split : {X : Type 0} (xs : List X) → 0 < length xs → (front : List X) × (x : X) × (xs ≡ front ++ x ∷ [])
last_split [] h = absurd (omega arith)
last_split (x ∷ []) h = ([], x, refl)
last_split (x ∷ y ∷ xs) h = (let r = last_split (y ∷ xs) (omega arith) in (x ∷ r.0, r.1, ap (λ zs. x ∷ zs) r.2))

next_there : (site : Site) (s : State) (agent n : ℕ) (task : Task) (load : Load) → IsNextBy load site s agent n task → IsTask s.tasks n task
next_there site s agent n task Load.None next = next.eligible.there
next_there site s agent n task (Load.Fetching m) next = next.1.there
next_there site s agent n task (Load.Carrying m seen) next = next.1.there

-- a task that is taken stands
stands_by : (site : Site) (old : State) (reply : Reply) (event : Event) (new : State) (p : Pending) → Answers site old reply event new → Some p ≡ taken_in reply event → p.task < length new.tasks
stands_by site old (Reply.Took n path) (Event.Request agent) new p step is =
    let there = next_there site old agent n step.1.0 (load_of old agent) step.1.1 in
    let later = later-step site old (Reply.Took n path) (Event.Request agent) new step n step.1.0 there in
    let same : p.task ≡ n = ap (λ (q : Pending). q.task) (same_Some p _ is) in
    let within = slice_get_within new.tasks n later.0 later.1 in
    omega arith
stands_by site old (Reply.Refused refusal) event new p step is = absurd (let clash : Some p ≡ None = is in cc)
stands_by site old (Reply.Accepted n) (Event.Submit client stops) new p step is = absurd (let clash : Some p ≡ None = is in cc)
stands_by site old Reply.Rested (Event.Request agent) new p step is = absurd (let clash : Some p ≡ None = is in cc)
stands_by site old (Reply.Parked point path) (Event.Request agent) new p step is = absurd (let clash : Some p ≡ None = is in cc)
stands_by site old (Reply.Clock now first last) Event.Tick new p step is = absurd (let clash : Some p ≡ None = is in cc)
stands_by site old (Reply.Replaced slots) (Event.Replace agent (Spare.Fits count)) new p step is = absurd (let clash : Some p ≡ None = is in cc)
stands_by site old Reply.Closed Event.Close new p step is = absurd (let clash : Some p ≡ None = is in cc)
stands_by site old reply event new p step is = absurd step

pub taken_stands : (site : Site) (old : State) (history : List Entry) (new : State) (p : Pending) → Run site old history new → 0 < length history →
    ((front : List Entry) (entry : Entry) → history ≡ front ++ entry ∷ [] → Some p ≡ taken_in entry.reply entry.event) → p.task < length new.tasks
taken_stands site old history new p run some is =
    let at = last_split history some in
    let entry = at.1 in
    let step = run_last site old at.0 entry new (subst (λ (es : List Entry). Run site old es new) at.2 run) in
    stands_by site step.0 entry.reply entry.event new p step.2 (is at.0 entry at.2)

-- what the last of these entries took, told by the whole history
pub taken_last : (history : List Entry) (tasks : List Task) (found : Option Pending) (before : ℕ) → before < length history →
    ((front : List Entry) (entry : Entry) → history ≡ front ++ entry ∷ [] → found ≡ taken_in entry.reply entry.event) →
    (front more : List Entry) → history ≡ front ++ more → length front ≡ before → length more ≤ 1 → taken_first more tasks ≡ with_stops tasks found
taken_last history tasks found before later is front [] e size few = absurd (let same : length history ≡ length front = ap (λ (es : List Entry). length es) (e ∙ append-nil front) in omega arith)
taken_last history tasks found before later is front (entry ∷ []) e size few = ap (λ (o : Option Pending). with_stops tasks o) (sym (is front entry e))
taken_last history tasks found before later is front (entry ∷ other ∷ more) e size few = absurd (omega arith)

pub taken_none : (history : List Entry) (tasks : List Task) (before : ℕ) → length history ≤ before → (front more : List Entry) → history ≡ front ++ more → length front ≡ before → taken_first more tasks ≡ None
taken_none history tasks before early front [] e size = refl
taken_none history tasks before early front (entry ∷ more) e size =
    absurd (let many : length history ≡ length front + length (entry ∷ more) = ap (λ (es : List Entry). length es) e ∙ length-append front (entry ∷ more) in omega arith)

-- one command has one entry at most
pub few_entries : {X : Type 0} (fits : X → Floor → Bool) (count : X → ℕ) (caller : ℕ) (site : Site) (c : Command) (os : List (Option Entry)) (s : State) (spares : List X) (new : State) (rest : List X) →
    Ran fits count site caller (c ∷ []) os s spares new rest → length (runs.entries_of os) ≤ 1
few_entries fits count caller site c [] s spares new rest p = absurd p
few_entries fits count caller site c (None ∷ []) s spares new rest p = omega arith
few_entries fits count caller site c (Some entry ∷ []) s spares new rest p = omega arith
few_entries fits count caller site c (o ∷ more ∷ os) s spares new rest p = absurd p.3

-- a task that was taken, with the stops that it has
pub with_stops_is : (tasks : List Task) (p : Pending) (task : Task) (stops : ℕ) → IsTask tasks p.task task → stops ≡ length task.stops → with_stops tasks (Some p) ≡ Some (record p { stops = stops })
with_stops_is tasks p task stops is e = ap (λ k. Some (record p { stops = k })) (ap stops_of is ∙ sym e)

-- where none is taken the same are kept
pub kept_same : (pending now : List Pending) (taken : Option Pending) → now ≡ pending ++ added_to pending taken → taken ≡ None → now ≡ pending
kept_same pending now taken kept none = kept ∙ ap (λ (o : Option Pending). pending ++ added_to pending o) none ∙ append-nil pending

-- ---- what is kept

module _ (old new : State) (IsTold : Visit → Type 0) (pending added : List Pending) (w : AreWatched old IsTold pending) (t : Takes old.tasks new.tasks added)
    (none : (n : ℕ) (task : Task) → IsTask old.tasks n task → task.agent ≡ None → (agent number : ℕ) → ¬ IsTold (visit agent n number)) where
  one_watched : (p : Pending) → IsWatched old IsTold p → IsWatched new IsTold p
  one_watched p one =
      let on = t.later p.task one.task one.is_task in
      record {
        task = on.0;
        is_task = on.1;
        agent_is = on.2.agent p.agent one.agent_is;
        stops_are = one.stops_are ∙ ap (λ (cells : List Cell). length cells) (sym on.2.stops);
        told = one.told;
      }

  one_taken : (p : Pending) → IsTaken old.tasks new.tasks p → IsWatched new IsTold p
  one_taken p taken = record {
    task = taken.task;
    is_task = taken.is_task;
    agent_is = taken.agent_is;
    stops_are = taken.stops_are;
    told = λ k. (λ told. absurd (none p.task taken.before taken.was taken.was_open p.agent k told), λ h. absurd (let zero = taken.untold in omega arith));
  }

  -- those that were kept and those that were taken are kept
  pub watched_on : AreWatched new IsTold (pending ++ added)
  watched_on = record {
    once = pairs_join (λ (p q : Pending). p.task ≢ q.task) pending added w.once t.once (λ p q cp cq same.
        let one = w.each p cp in
        let other = t.taken q cq in
        let task : one.task ≡ other.before = same_Some one.task other.before (sym one.is_task ∙ subst (λ n. IsTask old.tasks n other.before) (sym same) other.was) in
        let clash : Some p.agent ≡ None = sym one.agent_is ∙ ap (λ (k : Task). k.agent) task ∙ other.was_open in
        cc);
    each = λ p c. elim (Contains-append_cases pending added p c) [
      | inl here ↦ one_watched p (w.each p here)
      | inr there ↦ one_taken p (t.taken p there)
    ];
    all = λ n task agent is has. elim (t.from n agent task is has) [
      | inl kept ↦ inl (kept.0, Contains-append_right pending added kept.0 kept.1, kept.2)
      | inr had ↦ elim (w.all n had.before agent had.is_task had.agent_is) [
        | inl kept ↦ inl (kept.0, Contains-append_left pending added kept.0 kept.1, kept.2)
        | inr told ↦ inr (λ k h. (let stops = had.stops in told k (omega arith)))
      ]
    ];
  }
