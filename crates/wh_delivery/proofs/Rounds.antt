-- a round after another
use Rattle.std.proofs.Common.{◌≡◌, ◌≢◌, ℕ, ◌+◌, ◌*◌, ◌<◌, ◌≤◌, List, [], ◌∷◌, ◌++◌, Bool, true, false, length, refl, sym, ap, subst, arith, ◌∙◌, ◌⊎◌, inl, inr, append_assoc, append-nil}
use Prim.Native.Nat.{zero, suc}
use Rattle.std.proofs.lemmas.Bool.{false≢true, cases_eq, cases_lt, cases_Bool}
use Rattle.std.proofs.lemmas.List.Elements.{All-nil, All-cons, All-append}
use Rattle.wh_points.specs.Points.{Site}
use Rattle.wh_tasks.specs.declared.task.Task.{Task}
use Rattle.wh_tasks.specs.declared.task.Phase.{Phase}
use Rattle.wh_tasks.specs.Tasks.{IsTask, IsOpen, phase}
use Rattle.wh_core.specs.States.{State}
use Rattle.wh_core.specs.Steps.{Answers, Run, IsDue, last_clock}
use Rattle.wh_core.specs.Laws.{AllOnTheirWays, IsBeginningOnTheirWays}
use Rattle.wh_core.proofs.StepKinds.{run-join}
use Rattle.wh_core.proofs.Later.{AllLater, later-run}
use Rattle.wh_core.proofs.Idle.{decide-idle}
use Rattle.wh_core.proofs.Sound.{sound-reached}
use Rattle.wh_event.specs.declared.event.Event.{Event}
use Rattle.wh_event.specs.declared.reply.Refusal.{Refusal}
use Rattle.wh_event.specs.declared.reply.Reply.{Reply}
use Rattle.wh_event.specs.declared.entry.Entry.{Entry}
use Rattle.wh_book.specs.Drafts.{Seen, HasWaysForAll}
use Rattle.wh_progress.specs.Progress.{HaveAtMost, HasAsked, FindPaths, IsRound, StandsStill, IsHeld, AllDone, span, open_tasks, left_to_do, first_paths_left}
use Rattle.wh_progress.specs.Laws.{NoneCanStand}
use Rattle.wh_progress.proofs.Due.{due_until_asked}
use Rattle.wh_progress.proofs.Reaching.{few-after, places-after}
use Rattle.wh_progress.proofs.Standing.{still_is_done, only_held}
use Rattle.wh_progress.proofs.Delivered.{each_round_brings, left_is_bounded}
use Rattle.wh_delivery.specs.Turns.{IsRoundSoFar, RunInTurn, since_all}
use Rattle.wh_delivery.specs.Deliveries.{GoesOn, IsOneLater, IsOneTick, Begins, IsDelivering}
use Rattle.wh_delivery.proofs.Turns.{round-behind, tick-behind}
use Rattle.wh_delivery.proofs.Going.{IsBegun, goes-none, goes-trans, one-step, asked-left, asked-last, reached, reached-ways, ways-stay}

pub delivering-none : (caller : ℕ) (book : Seen) → IsDelivering caller book 0 book
delivering-none caller book = record {
  added = [];
  goes = goes-none caller book;
  in_turn = refl;
  begins = refl;
  clock = omega arith;
  tasks = refl;
  falls = λ stops ways few. omega arith;
}

few-now : (caller : ℕ) (old now : Seen) (stops ticks : ℕ) → IsDelivering caller old ticks now → HaveAtMost stops old.state → HaveAtMost stops now.state
few-now caller old now stops ticks d few = few-after stops old.state now.state (later-run old.site old.state d.added now.state d.goes.run) d.tasks few

-- whether an agent is due
decide-due : (site : Site) (s : State) (agent : ℕ) → IsDue site s agent ⊎ (IsDue site s agent → ⊥)
decide-due site s agent = elim (cases_Bool s.closed) [
  | inl shut ↦ inr (λ due. false≢true (sym due.known.not_closed ∙ shut))
  | inr opens ↦ elim (cases_lt agent (length s.paths)) [
    | inr past ↦ inr (λ due. let known = due.known.known in omega arith)
    | inl known ↦ elim (decide-idle site s agent) [
      | inl idle ↦ inl (record { known = record { not_closed = opens; known = known }; idle = idle })
      | inr busy ↦ inr (λ due. busy due.idle)
    ]
  ]
]

-- Requests that would be told to rest change nothing: they may be added to a round, and then each due agent has asked in it.
record RestsAdded (site : Site) (s : State) (asks : List Entry) (count : ℕ) : Type 0 where
  pub rests : List Entry
  pub run : Run site s rests s
  pub finds : FindPaths rests
  pub asked : (agent : ℕ) → agent < count → IsDue site s agent → HasAsked (asks ++ rests) agent

rests-same : (site : Site) (s : State) (asks : List Entry) (count : ℕ) (r : RestsAdded site s asks count) → (IsDue site s count → HasAsked (asks ++ r.rests) count) →
    RestsAdded site s asks (suc count)
rests-same site s asks count r has = record {
  rests = r.rests;
  run = r.run;
  finds = r.finds;
  asked = λ agent lt due. elim (cases_eq agent count) [
    | inl same ↦ subst (λ a. HasAsked (asks ++ r.rests) a) (sym same) (has (subst (λ a. IsDue site s a) same due))
    | inr ne ↦ r.asked agent (omega arith) due
  ];
}

abbrev resting : ℕ → Entry
resting agent = record { caller = 0; event = Event.Request agent; reply = Reply.Rested }

rests-one : (site : Site) (s : State) (asks : List Entry) (count : ℕ) (r : RestsAdded site s asks count) → Answers site s Reply.Rested (Event.Request count) s →
    RestsAdded site s asks (suc count)
rests-one site s asks count r step =
    let more = r.rests ++ resting count ∷ [] in
    let joined = append_assoc asks r.rests (resting count ∷ []) in
    record {
      rests = more;
      run = run-join site s r.rests s (resting count ∷ []) s r.run (s, step, refl);
      finds = All-append (λ entry. entry.reply ≢ Reply.Refused Refusal.NoPath) r.rests (resting count ∷ []) r.finds
          (All-cons (λ entry. entry.reply ≢ Reply.Refused Refusal.NoPath) (resting count) [] (λ e. let clash : Reply.Rested ≡ Reply.Refused Refusal.NoPath = e in cc) (All-nil (λ entry. entry.reply ≢ Reply.Refused Refusal.NoPath)));
      asked = λ agent lt due. subst (λ es. HasAsked es agent) joined (elim (cases_eq agent count) [
        | inl same ↦ subst (λ a. HasAsked ((asks ++ r.rests) ++ resting count ∷ []) a) (sym same) (asked-last (asks ++ r.rests) (resting count) count refl)
        | inr ne ↦ asked-left (asks ++ r.rests) (resting count ∷ []) agent (r.asked agent (omega arith) due)
      ]);
    }

rests-added : (site : Site) (s : State) (asks : List Entry) (count : ℕ) →
    ((agent : ℕ) → IsDue site s agent → HasAsked asks agent ⊎ Answers site s Reply.Rested (Event.Request agent) s) → RestsAdded site s asks count
rests-added site s asks zero told = record {
  rests = [];
  run = refl;
  finds = All-nil (λ entry. entry.reply ≢ Reply.Refused Refusal.NoPath);
  asked = λ agent lt. absurd (omega arith);
}
rests-added site s asks (suc count) told =
    let r = rests-added site s asks count told in
    elim (decide-due site s count) [
      | inr not ↦ rests-same site s asks count r (λ due. absurd (not due))
      | inl due ↦ elim (told count due) [
        | inl has ↦ rests-same site s asks count r (λ _. asked-left asks r.rests count has)
        | inr step ↦ rests-one site s asks count r step
      ]
    ]

-- So agents that ask, where each other that is due would be told to rest, and a tick after them are as good as a round: of those entries
-- and of the requests of the others.
pub as-round : (site : Site) (old mid new : State) (still : Bool) (asks last : List Entry) → Begins site old still asks mid → Run site old asks mid → Run site mid last new →
    mid.closed ≡ false → old.clock < new.clock → new.closed ≡ false → FindPaths asks → FindPaths last →
    (entries : List Entry) × IsRound site old entries new × FindPaths entries
as-round site old mid new still asks last begins first second mid_open later opens asks_find last_find =
    let r = rests-added site mid asks (length mid.paths) begins.asked in
    let P : Entry → Type 0 = λ entry. entry.reply ≢ Reply.Refused Refusal.NoPath in (
      (asks ++ r.rests) ++ last,
      record {
        run = run-join site old (asks ++ r.rests) mid last new (run-join site old asks mid r.rests mid first r.run) second;
        asked = λ some agent due. asked-left (asks ++ r.rests) last agent (elim (due_until_asked site old asks mid agent first mid_open due) [
          | inl still_due ↦ r.asked agent still_due.known.known still_due
          | inr has ↦ asked-left asks r.rests agent has
        ]);
        goes_on = later;
        not_closed = opens;
      },
      All-append P (asks ++ r.rests) last (All-append P asks r.rests asks_find r.finds) last_find,
    )

-- each of them was in its turn
ticked : (site : Site) (old now mid new : State) (before asks last : List Entry) → RunInTurn site old [] before now → since_all [] before ≡ [] →
    IsRoundSoFar site now asks mid → Begins site now false asks mid → IsOneTick last → Run site mid last new →
    RunInTurn site old [] (before ++ (asks ++ last)) new × (since_all [] (before ++ (asks ++ last)) ≡ [])
ticked site old now mid new before asks last run begun round begins one last_run =
    let entry = one.0 in
    let step = one-step site mid new entry (subst (λ l. Run site mid l new) one.1 last_run) in
    let whole = tick-behind site old now mid new before asks entry run begun round (begins.ticks refl) one.2 step in
    let same : (before ++ asks) ++ entry ∷ [] ≡ before ++ (asks ++ last) = append_assoc before asks (entry ∷ []) ∙ ap (λ l. before ++ (asks ++ l)) (sym one.1) in (
      subst (λ l. RunInTurn site old [] l new) same whole.0,
      subst (λ l. since_all [] l ≡ []) same whole.1,
    )

-- all that were to be asked have asked, not all stood still, and a tick followed
pub delivering-more : (caller : ℕ) (old now mid new : Seen) (ticks : ℕ) (asks last : List Entry) → IsBegun old →
    IsDelivering caller old ticks now → GoesOn caller now asks mid → IsRoundSoFar now.site now.state asks mid.state → Begins now.site now.state false asks mid.state →
    GoesOn caller mid last new → IsOneTick last → IsOneLater mid.state new.state → IsDelivering caller old (ticks + 1) new
delivering-more caller old now mid new ticks asks last kept d first round asked second one later =
    let whole = goes-trans caller now mid new asks last first second in
    let goes = goes-trans caller old now new d.added (asks ++ last) d.goes whole in
    let on = asked.on_time in
    let here = d.goes.stays.site in
    let there : mid.site ≡ old.site = first.stays.site ∙ here in
    let clock : new.state.clock ≡ now.state.clock + 1 = later.clock ∙ ap (λ n. n + 1) on.clock in
    let before = d.clock in
    let tasks : length new.state.tasks ≡ length now.state.tasks = later.tasks ∙ on.tasks in
    let begins : Begins old.site now.state false asks mid.state = subst (λ s. Begins s now.state false asks mid.state) here asked in
    let run_first : Run old.site now.state asks mid.state = subst (λ s. Run s now.state asks mid.state) here first.run in
    let run_second : Run old.site mid.state last new.state = subst (λ s. Run s mid.state last new.state) there second.run in
    let in_turn = ticked old.site old.state now.state mid.state new.state d.added asks last d.in_turn d.begins
    (subst (λ s. IsRoundSoFar s now.state asks mid.state) here round) begins one run_second in
    record {
      added = d.added ++ (asks ++ last);
      goes = goes;
      in_turn = in_turn.0;
      begins = in_turn.1;
      clock = omega arith;
      tasks = tasks ∙ d.tasks;
      falls = λ stops ways few.
          let round = as-round old.site now.state mid.state new.state false asks last begins run_first run_second later.was_open (omega arith) later.not_closed
          (first.served (ways-stay old now d.goes.stays ways)) (second.served (ways-stay now mid first.stays (ways-stay old now d.goes.stays ways))) in
          let now_few = few-now caller old now stops ticks d few in
          let new_few = few-after stops now.state new.state (later-run old.site now.state round.0 new.state round.1.run) tasks now_few in
          let at = reached-ways caller old now d.added kept d.goes ways.on_their_ways in
          let none : length new.state.tasks ≡ length now.state.tasks + 0 = omega arith in
          let falls_before = d.falls stops ways few in
          elim (each_round_brings old.site stops (old.history ++ d.added) round.0 now.state new.state 0 at round.1 round.2 new_few none) [
            | inr still ↦ absurd (begins.moves refl still)
            | inl less ↦ omega arith
          ];
    }

-- of the entries that a book gained each is in its turn
abbrev pub GainsInTurn : Seen → Seen → Type 0
GainsInTurn old new = (added : List Entry) × (new.history ≡ old.history ++ added) × RunInTurn old.site old.state [] added new.state

-- behind whole rounds, those of one that was begun
pub in-turn-behind : (caller : ℕ) (old now new : Seen) (ticks : ℕ) (asks : List Entry) → IsDelivering caller old ticks now → GoesOn caller now asks new →
    IsRoundSoFar now.site now.state asks new.state → GainsInTurn old new
in-turn-behind caller old now new ticks asks d goes round = (
  d.added ++ asks,
  (goes-trans caller old now new d.added asks d.goes goes).history,
  round-behind old.site old.state now.state new.state d.added asks d.in_turn d.begins (subst (λ s. IsRoundSoFar s now.state asks new.state) d.goes.stays.site round),
)

-- and nothing behind them
pub in-turn-still : (caller : ℕ) (old now mid new : Seen) (ticks : ℕ) (asks last : List Entry) → IsDelivering caller old ticks now → GoesOn caller now asks mid →
    IsRoundSoFar now.site now.state asks mid.state → GoesOn caller mid last new → last ≡ [] → GainsInTurn old new
in-turn-still caller old now mid new ticks asks last d goes round rest none =
    let gains = in-turn-behind caller old now mid ticks asks d goes round in
    let none_more : Run mid.site mid.state [] new.state = subst (λ l. Run mid.site mid.state l new.state) none rest.run in (
      gains.0,
      rest.history ∙ ap (λ l. mid.history ++ l) none ∙ append-nil mid.history ∙ gains.1,
      subst (λ s. RunInTurn old.site old.state [] gains.0 s) (sym none_more) gains.2,
    )

-- all stood still as the round began
pub all-rest : (caller : ℕ) (now new : Seen) (asks : List Entry) → GoesOn caller now asks new → Begins now.site now.state true asks new.state →
    (new.state ≡ now.state) × StandsStill new.site new.state
all-rest caller now new asks goes asked =
    let still = asked.stands refl in
    (still.0, subst (λ s. StandsStill s new.state) (sym goes.stays.site) (subst (λ s. StandsStill now.site s) (sym still.0) still.1))

-- so all stands still on the site, too, on which it began
stands-there : (caller : ℕ) (old now new : Seen) (ticks : ℕ) (asks : List Entry) → IsDelivering caller old ticks now → GoesOn caller now asks new →
    Begins now.site now.state true asks new.state → StandsStill old.site new.state
stands-there caller old now new ticks asks d goes asked =
    subst (λ s. StandsStill s new.state) (goes.stays.site ∙ d.goes.stays.site) (all-rest caller now new asks goes asked).1

none-stand : (site : Site) (old now : State) → AllLater old.tasks now.tasks → length now.tasks ≡ length old.tasks → NoneCanStand site old → NoneCanStand site now
none-stand site old now later few none = elim none [
  | inl homes ↦ inl homes
  | inr two ↦ inr (two.0, places-after old now later few two.1)
]

pub delivered : (caller : ℕ) (old now new : Seen) (ticks : ℕ) (asks : List Entry) → IsBegun old → IsDelivering caller old ticks now → GoesOn caller now asks new →
    Begins now.site now.state true asks new.state → AllOnTheirWays old.site old.opening → 0 < length old.site.layout.agents → NoneCanStand old.site old.state → AllDone new.state
delivered caller old now new ticks asks kept d goes asked ways some none =
    let whole = goes-trans caller old now new d.added asks d.goes goes in
    let at = reached-ways caller old new (d.added ++ asks) kept whole ways in
    let now_none = none-stand old.site old.state now.state (later-run old.site old.state d.added now.state d.goes.run) d.tasks none in
    let none_there : NoneCanStand old.site new.state = subst (λ s. NoneCanStand old.site s) (sym (asked.stands refl).0) now_none in
    still_is_done old.site (old.history ++ (d.added ++ asks)) new.state some at none_there (stands-there caller old now new ticks asks d goes asked)

-- no more ticks than rounds were left to do
pub within : (caller : ℕ) (old now : Seen) (ticks : ℕ) → IsDelivering caller old ticks now → (stops : ℕ) → HasWaysForAll old.site old.opening → HaveAtMost stops old.state →
    ticks ≤ left_to_do old.site stops old.state
within caller old now ticks d stops ways few = (let falls = d.falls stops ways few in omega arith)

pub bounded : (caller : ℕ) (old now : Seen) (ticks : ℕ) → IsBegun old →
    IsDelivering caller old ticks now → old.site.homes ≡ false → (stops : ℕ) → HasWaysForAll old.site old.opening → HaveAtMost stops old.state →
    ticks ≤ 2 * span old.site stops * (length old.site.layout.agents + open_tasks old.state) + first_paths_left old.opening old.state
bounded caller old now ticks kept d off stops ways few =
    let begins : IsBeginningOnTheirWays old.site old.opening = record { beginning = kept.begins; on_their_ways = ways.on_their_ways } in
    let bound = left_is_bounded old.site stops old.opening old.history old.state off begins kept.run few in
    let falls = d.falls stops ways few in
    omega arith

-- no more ticks than the clock has
pub full : (caller : ℕ) (old now : Seen) → IsBegun old → IsDelivering caller old last_clock now → now.state.clock ≡ last_clock
full caller old now kept d =
    let at = reached caller old now d.added kept d.goes in
    let limit = (sound-reached old.site (old.history ++ d.added) now.state at).clock_fits in
    let clock = d.clock in
    omega arith

pub held : (caller : ℕ) (old now new : Seen) (ticks : ℕ) (asks : List Entry) → IsBegun old → IsDelivering caller old ticks now → GoesOn caller now asks new →
    Begins now.site now.state true asks new.state → AllOnTheirWays old.site old.opening → old.site.homes ≡ false → 0 < length old.site.layout.agents →
    (n : ℕ) (task : Task) → IsTask new.state.tasks n task → (phase task ≡ Phase.Done) ⊎ (IsOpen task × IsHeld new.state task)
held caller old now new ticks asks kept d goes asked ways off some n task there =
    let whole = goes-trans caller old now new d.added asks d.goes goes in
    let at = reached-ways caller old new (d.added ++ asks) kept whole ways in
    only_held old.site (old.history ++ (d.added ++ asks)) new.state n task off some at (stands-there caller old now new ticks asks d goes asked) there

-- the clock is at its last only where it had not enough left
pub late-within : (caller : ℕ) (old now : Seen) (mid : State) (ticks : ℕ) → IsDelivering caller old ticks now → mid.clock ≡ now.state.clock → mid.clock ≡ last_clock →
    (stops : ℕ) → HasWaysForAll old.site old.opening → HaveAtMost stops old.state → last_clock ≤ old.state.clock + left_to_do old.site stops old.state
late-within caller old now mid ticks d same last stops ways few =
    let bound = within caller old now ticks d stops ways few in
    let clock = d.clock in
    omega arith

pub late : (caller : ℕ) (old now : Seen) (mid : State) (ticks : ℕ) → IsBegun old →
    IsDelivering caller old ticks now → mid.clock ≡ now.state.clock → mid.clock ≡ last_clock → old.site.homes ≡ false →
    (stops : ℕ) → HasWaysForAll old.site old.opening → HaveAtMost stops old.state →
    last_clock ≤ old.state.clock + 2 * span old.site stops * (length old.site.layout.agents + open_tasks old.state) + first_paths_left old.opening old.state
late caller old now mid ticks kept d same last off stops ways few =
    let bound = bounded caller old now ticks kept d off stops ways few in
    let clock = d.clock in
    omega arith
