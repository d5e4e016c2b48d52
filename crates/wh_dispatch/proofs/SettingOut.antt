-- vehicles that go on from where they stand, of which nothing was told
use Rattle.std.proofs.Common.{◌≡◌, ◌≢◌, ℕ, ◌+◌, ◌<◌, ◌≤◌, ◌∙◌, inl, inr, List, [], ◌∷◌, ◌++◌, length, Option, Some, None, sym, subst, refl, ap, arith, append-nil}
use Rattle.std.specs.Prelude.{Contains, option_map}
use Rattle.std.specs.List.{AllPairs}
use Rattle.std.proofs.lemmas.Bool.{cases_lt}
use Rattle.std.proofs.lemmas.Option.{same_Some, slice_get_within}
use Rattle.std.proofs.lemmas.List.Elements.{Contains-append_left, Contains-append_right, Contains-append_cases}
use Rattle.wh_tasks.specs.declared.task.Task.{Task}
use Rattle.wh_tasks.specs.Tasks.{IsTask}
use Rattle.wh_core.specs.States.{State}
use Rattle.wh_core.proofs.Sound.{kept-reached, sound-reached}
use Rattle.wh_book.specs.Drafts.{Seen}
use Rattle.wh_drive.specs.Drives.{Drive}
use Rattle.wh_order.specs.Orders.{Represents}
use Rattle.wh_vehicles.specs.Visits.{HasMade}
use Rattle.wh_dispatch.specs.declared.visits.Pending.{Pending}
use Rattle.wh_dispatch.specs.Crews.{Crew, IsInStep, IsManned, IsWatched, IsKept, AreWatched}
use Rattle.wh_dispatch.specs.Visiting.{due_visits, SomeStanding, listed}
use Rattle.wh_dispatch.specs.Scripts.{TellsAll}
use Rattle.wh_dispatch.specs.SettingOut.{NoneIsTold, untold_of, SomeInStep, SetsOut}
use Rattle.wh_dispatch.proofs.Members.{in_cons, none_in, first_in, pairs_nil, pairs_join}
use Rattle.wh_dispatch.proofs.Happening.{fleet, go_leads, settle_goes}
use Rattle.wh_dispatch.proofs.Serving.{grows_none, goes_in_step}
use Rattle.wh_dispatch.proofs.Watching.{each_due, due_in_turn, all_due, watched_after, standing}

-- ---- all tasks that agents have

-- the tasks below this number that agents have stand in the row, each once, and no others
pub record Listed (s : State) (end : ℕ) (row : List Pending) : Type 0 where
  pub once : AllPairs (λ p q. p.task ≢ q.task) row
  pub each : (p : Pending) → Contains row p → IsWatched s NoneIsTold p
  pub below : (p : Pending) → Contains row p → p.task < end
  pub all : (n : ℕ) (task : Task) (agent : ℕ) → n < end → IsTask s.tasks n task → task.agent ≡ Some agent → IsKept row n

pub listed_start : (s : State) (row : List Pending) → row ≡ [] → Listed s 0 row
listed_start s row empty = subst (λ (ps : List Pending). Listed s 0 ps) (sym empty) (record {
  once = pairs_nil (λ (p q : Pending). p.task ≢ q.task);
  each = λ p c. absurd (none_in p c);
  below = λ p c. absurd (none_in p c);
  all = λ n task agent less is has. absurd (omega arith);
})

-- what the task says of the one that is added
says : (n : ℕ) (task : Task) (one : Pending) → untold_of n task ≡ Some one → (agent : ℕ) × (task.agent ≡ Some agent) × (one ≡ record { agent = agent; task = n; stops = length task.stops; told = 0 })
says n task one e = go task.agent refl
  where
    go : (a : Option ℕ) → task.agent ≡ a → (agent : ℕ) × (task.agent ≡ Some agent) × (one ≡ record { agent = agent; task = n; stops = length task.stops; told = 0 })
    go None is = absurd (let clash : None ≡ Some one = sym (ap (λ (a : Option ℕ). option_map (λ agent. record { agent = agent; task = n; stops = length task.stops; told = 0 }) a) is) ∙ e in cc)
    go (Some agent) is = (
      agent,
      is,
      same_Some one _ (sym e ∙ ap (λ (a : Option ℕ). option_map (λ agent. record { agent = agent; task = n; stops = length task.stops; told = 0 }) a) is),
    )

pub listed_more : (s : State) (n : ℕ) (row new : List Pending) (task : Task) (one : Pending) → Listed s n row → IsTask s.tasks n task → untold_of n task ≡ Some one → new ≡ row ++ one ∷ [] →
    Listed s (n + 1) new
listed_more s n row new task one l is e added = subst (λ (ps : List Pending). Listed s (n + 1) ps) (sym added) (record {
  once = pairs_join (λ (p q : Pending). p.task ≢ q.task) row (one ∷ []) l.once single (λ p q cp cq same. (
      let less = l.below p cp in
      let here : one.task ≡ q.task = ap (λ (r : Pending). r.task) (only q cq) in
      let mine = number in
      absurd (omega arith)));
  each = λ p c. elim (Contains-append_cases row (one ∷ []) p c) [
    | inl before ↦ l.each p before
    | inr last ↦ subst (λ (r : Pending). IsWatched s NoneIsTold r) (only p last) watched
  ];
  below = λ p c. elim (Contains-append_cases row (one ∷ []) p c) [
    | inl before ↦ (let less = l.below p before in omega arith)
    | inr last ↦ (let here : one.task ≡ p.task = ap (λ (r : Pending). r.task) (only p last) in let mine = number in omega arith)
  ];
  all = λ m other agent less there has. elim (cases_lt m n) [
    | inl early ↦ (let k = l.all m other agent early there has in (k.0, Contains-append_left row (one ∷ []) k.0 k.1, k.2))
    | inr late ↦ (let mine = number in let here : one.task ≡ m = omega arith in (one, Contains-append_right row (one ∷ []) one (first_in one []), here))
  ];
})
  where
    told : (agent : ℕ) × (task.agent ≡ Some agent) × (one ≡ record { agent = agent; task = n; stops = length task.stops; told = 0 })
    told = says n task one e

    number : one.task ≡ n
    number = ap (λ (p : Pending). p.task) told.2

    single : AllPairs (λ (p q : Pending). p.task ≢ q.task) (one ∷ [])
    single i j d below within = absurd (omega arith)

    only : (p : Pending) → Contains (one ∷ []) p → one ≡ p
    only p c = elim (in_cons one [] p c) [
      | inl same ↦ same
      | inr none ↦ absurd (none_in p none)
    ]

    watched : IsWatched s NoneIsTold one
    watched = subst (λ (p : Pending). IsWatched s NoneIsTold p) (sym told.2) (record {
      task = task;
      is_task = is;
      agent_is = told.1;
      stops_are = refl;
      told = λ k. (λ none. absurd none, λ less. absurd (omega arith));
    })

pub listed_none : (s : State) (n : ℕ) (row : List Pending) (task : Task) → Listed s n row → IsTask s.tasks n task → untold_of n task ≡ None → Listed s (n + 1) row
listed_none s n row task l is e = record {
  once = l.once;
  each = l.each;
  below = λ p c. (let less = l.below p c in omega arith);
  all = λ m other agent less there has. elim (cases_lt m n) [
    | inl early ↦ l.all m other agent early there has
    | inr late ↦
        let here : m ≡ n = omega arith in
        let same : other ≡ task = same_Some other task (sym (subst (λ k. IsTask s.tasks k other) here there) ∙ is) in
        let mine : task.agent ≡ Some agent = sym (ap (λ (t : Task). t.agent) same) ∙ has in
        absurd (let clash : Some (record { agent = agent; task = n; stops = length task.stops; told = 0 }) ≡ None =
        sym (ap (λ (a : Option ℕ). option_map (λ agent. record { agent = agent; task = n; stops = length task.stops; told = 0 }) a) mine) ∙ e in cc)
  ];
}

-- the task of this number is added, if an agent has it
pub listed_step : (s : State) (n : ℕ) (row new : List Pending) (task : Task) → Listed s n row → IsTask s.tasks n task → new ≡ row ++ listed (untold_of n task) → Listed s (n + 1) new
listed_step s n row new task l is added = go (untold_of n task) refl
  where
    go : (o : Option Pending) → untold_of n task ≡ o → Listed s (n + 1) new
    go None e =
        subst (λ (ps : List Pending). Listed s (n + 1) ps) (sym (added ∙ ap (λ (o : Option Pending). row ++ listed o) e ∙ append-nil row)) (listed_none s n row task l is e)
    go (Some one) e = listed_more s n row new task one l is e (added ∙ ap (λ (o : Option Pending). row ++ listed o) e)

pub listed_all : (s : State) (end : ℕ) (row : List Pending) → Listed s end row → length s.tasks ≤ end → AreWatched s NoneIsTold row
listed_all s end row l most = record {
  once = l.once;
  each = l.each;
  all = λ n task agent is has. inl (let within = slice_get_within s.tasks n task is in l.all n task agent (omega arith) is has);
}

-- ---- they go on

module _ (book : Seen) (crew : Crew) (untold : AreWatched book.state NoneIsTold crew.pending) where
  pub stand_untold : SomeInStep book crew.order → SomeStanding book crew
  stand_untold some =
      let d = some.0 in
      let c = some.1.carried in
      record {
        drive = d;
        represents = some.1.represents;
        stand = standing book.opening.clock book.state d NoneIsTold crew.pending untold (length d.vehicles) c.come.all
            (kept-reached book.site book.history book.state c.state).working (λ v told. absurd told);
      }

  pub sets_out : (next : Crew) (d e : Drive) (had has : Option (List ℕ)) → IsInStep book crew.order d → Represents next.order e → TellsAll book crew.pending next.pending d e had has →
      IsManned book next e × SetsOut book d e had has
  sets_out next d e had has in_step rep t =
      let step = goes_in_step book book crew.order next.order d e [] in_step (go_leads book.site book.state d t.events e (settle_goes d t.events t.only) t.run) (grows_none book book refl) rep in
      let c = step.carried in
      let opening = book.opening.clock in
      let few = (kept-reached book.site book.history book.state c.state).working.few in
      let timed = λ (n : ℕ) (task : Task) (is : IsTask book.state.tasks n task). ((sound-reached book.site book.history book.state c.state).tasks n task is).timed in
      let visits = due_visits opening book.state.tasks e.vehicles crew.pending in
      let all = all_due opening book.state e NoneIsTold crew.pending untold book.state.clock timed few (λ v told. absurd told) in (
        record {
          in_step = step;
          quiet = t.quiet;
          watched = subst (λ (ps : List Pending). AreWatched book.state (HasMade opening (fleet book.state e)) ps) (sym t.left_are)
              (watched_after opening book.state e NoneIsTold crew.pending untold book.state.clock timed few (λ v told. absurd told));
        },
        record {
          events = t.events;
          only = t.only;
          run = t.run;
          visits = visits;
          made = λ v. (
            λ c. (each_due opening book.state e NoneIsTold crew.pending untold v c).0,
            λ made. elim (all v made) [
              | inl told ↦ absurd told
              | inr due ↦ due
            ],
          );
          in_turn = due_in_turn opening book.state e NoneIsTold crew.pending untold;
          appends = t.appends;
        },
      )
