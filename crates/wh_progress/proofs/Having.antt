-- on a well-formed instance rounds can be had: agents ask one after another, and a tick follows
use Rattle.std.proofs.Common.{◌≡◌, ℕ, ◌+◌, ◌<◌, ◌≤◌, List, [], ◌∷◌, ◌++◌, false, length, map, refl, sym, ap, subst, arith, ◌∙◌, inl, inr}
use Prim.Native.Nat.{zero, suc}
use Rattle.std.proofs.lemmas.Bool.{false≢true, cases_eq}
use Rattle.std.proofs.lemmas.List.{length-map, length-set}
use Rattle.wh_points.specs.Points.{Site}
use Rattle.wh_points.specs.Formed.{IsFormed}
use Rattle.wh_field.proofs.Tables.{Contains-first, Contains-later}
use Rattle.wh_core.specs.States.{State}
use Rattle.wh_core.specs.Steps.{Answers, Run, IsNext, IsNextBy, MakesWay, last_clock}
use Rattle.wh_core.specs.Laws.{IsReachedOnTheirWays}
use Rattle.wh_core.proofs.Answering.{every_event}
use Rattle.wh_event.specs.declared.event.Event.{Event}
use Rattle.wh_event.specs.declared.reply.Refusal.{Refusal}
use Rattle.wh_event.specs.declared.reply.Reply.{Reply}
use Rattle.wh_event.specs.declared.entry.Entry.{Entry}
use Rattle.wh_tasks.specs.declared.task.Task.{Task}
use Rattle.wh_core.proofs.Idle.{idle-none}
use Rattle.wh_progress.specs.Progress.{HasAsked, IsRound, Rounds, MayRest, StandsStill}
use Rattle.wh_progress.proofs.Reaching.{reached-step, reached-run}

-- neither closed nor ticked, and no task added
pub record IsAsked (old new : State) : Type 0 where
  pub closed : new.closed ≡ old.closed
  pub clock : new.clock ≡ old.clock
  pub tasks : length new.tasks ≡ length old.tasks

same-asked : (old new : State) → new ≡ old → IsAsked old new
same-asked old new e = record { closed = ap (λ s. s.closed) e; clock = ap (λ s. s.clock) e; tasks = ap (λ s. length s.tasks) e }

pub asked : (site : Site) (old : State) (reply : Reply) (agent : ℕ) (new : State) → Answers site old reply (Event.Request agent) new → IsAsked old new
asked site old (Reply.Refused refusal) agent new step = same-asked old new step.1
asked site old (Reply.Took n path) agent new step = record {
  closed = ap (λ s. s.closed) step.1.3;
  clock = ap (λ s. s.clock) step.1.3;
  tasks = ap (λ s. length s.tasks) step.1.3 ∙ length-map _ _ ∙ length-set _ _ _;
}
asked site old Reply.Rested agent new step = same-asked old new step.3
asked site old (Reply.Parked point path) agent new step = record {
  closed = ap (λ s. s.closed) step.4;
  clock = ap (λ s. s.clock) step.4;
  tasks = ap (λ s. length s.tasks) step.4;
}
asked site old reply agent new step = absurd step

-- one step of time, and no task added
pub record IsTicked (old new : State) : Type 0 where
  pub closed : new.closed ≡ old.closed
  pub clock : new.clock ≡ old.clock + 1
  pub tasks : length new.tasks ≡ length old.tasks

pub ticked : (site : Site) (old : State) (reply : Reply) (new : State) → old.closed ≡ false → old.clock < last_clock → Answers site old reply Event.Tick new → IsTicked old new
ticked site old (Reply.Refused Refusal.Closed) new opens early step = absurd (false≢true (sym opens ∙ step.0))
ticked site old (Reply.Refused Refusal.ClockFull) new opens early step = absurd (let e = step.0.1 in omega arith)
ticked site old (Reply.Refused refusal) new opens early step = absurd step.0
ticked site old (Reply.Clock now first last) new opens early step = record {
  closed = ap (λ s. s.closed) step.5;
  clock = ap (λ s. s.clock) step.5;
  tasks = ap (λ s. length s.tasks) step.5 ∙ length-map _ _;
}
ticked site old reply new opens early step = absurd step

-- so many agents ask, and a tick follows
record AskAndTick (site : Site) (old : State) (agents : ℕ) : Type 0 where
  pub entries : List Entry
  pub new : State
  pub run : Run site old entries new
  pub all_asked : (agent : ℕ) → agent < agents → HasAsked entries agent
  pub by : IsTicked old new

later : (entry : Entry) (entries : List Entry) (agent : ℕ) → HasAsked entries agent → HasAsked (entry ∷ entries) agent
later entry entries agent has = Contains-later (Event.Request agent) entry.event (map (λ (e : Entry). e.event) entries) has

ask-and-tick : (site : Site) (agents : ℕ) (before : List Entry) (s : State) → IsFormed site → IsReachedOnTheirWays site before s → s.closed ≡ false → s.clock < last_clock →
    AskAndTick site s agents
ask-and-tick site zero before s formed r opens early =
    let answer = every_event site before s Event.Tick formed r tt in
    record {
      entries = record { caller = 0; event = Event.Tick; reply = answer.0 } ∷ [];
      new = answer.1;
      run = (answer.1, answer.2, refl);
      all_asked = λ agent h. absurd (omega arith);
      by = ticked site s answer.0 answer.1 opens early answer.2;
    }
ask-and-tick site (suc agents) before s formed r opens early =
    let answer = every_event site before s (Event.Request agents) formed r tt in
    let entry : Entry = record { caller = 0; event = Event.Request agents; reply = answer.0 } in
    let mid = answer.1 in
    let kept = asked site s answer.0 agents mid answer.2 in
    let same = kept.clock in
    let rest = ask-and-tick site agents (before ++ entry ∷ []) mid formed (reached-step site before s entry mid r answer.2) (kept.closed ∙ opens) (omega arith) in
    record {
      entries = entry ∷ rest.entries;
      new = rest.new;
      run = (mid, answer.2, rest.run);
      all_asked = λ agent h. elim (cases_eq agent agents) [
        | inl e ↦ subst (λ a. HasAsked (entry ∷ rest.entries) a) (sym e) (Contains-first (Event.Request agents) (map (λ (x : Entry). x.event) rest.entries))
        | inr ne ↦ later entry rest.entries agent (rest.all_asked agent (omega arith))
      ];
      by = record {
        closed = rest.by.closed ∙ kept.closed;
        clock = (let c = rest.by.clock in omega arith);
        tasks = rest.by.tasks ∙ kept.tasks;
      };
    }

pub rounds_can_be_had : (site : Site) (before : List Entry) (s : State) (count : ℕ) → IsFormed site → IsReachedOnTheirWays site before s → s.closed ≡ false →
    s.clock + count ≤ last_clock →
    (rounds : List (List Entry)) × (new : State) × (length rounds ≡ count) × Rounds site s rounds new × (length new.tasks ≡ length s.tasks)
rounds_can_be_had site before s zero formed r opens early = ([], s, refl, refl, refl)
rounds_can_be_had site before s (suc count) formed r opens early =
    let first = ask-and-tick site (length s.paths) before s formed r opens (omega arith) in
    let opens_after : first.new.closed ≡ false = first.by.closed ∙ opens in
    let clock = first.by.clock in
    let round : IsRound site s first.entries first.new = record {
      run = first.run;
      asked = λ some agent due. first.all_asked agent due.known.known;
      goes_on = omega arith;
      not_closed = opens_after;
    } in
    let rest = rounds_can_be_had site (before ++ first.entries) first.new count formed (reached-run site before first.entries s first.new r first.run) opens_after (omega arith) in
    (first.entries ∷ rest.0, rest.1, ap suc rest.2, (first.new, round, rest.3), rest.4 ∙ first.by.tasks)

-- an agent that may rest has no next task, and makes no way
none-next : (site : Site) (s : State) (agent n : ℕ) (task : Task) → MayRest site s agent → IsNext site s agent n task → ⊥
none-next site s agent n task rest next =
    rest.none.1 n task (subst (λ l. IsNextBy l site s agent n task) rest.none.0 next).eligible

none-way : (site : Site) (s : State) (agent : ℕ) → MayRest site s agent → MakesWay site s agent → ⊥
none-way site s agent rest makes = elim makes.in_the_way [ inl wanted ↦ rest.stays.not_wanted wanted | inr off ↦ off rest.stays.berth ]

-- where all stands still, an agent that asks is told to rest
pub rested_only : (site : Site) (s : State) (agent : ℕ) (reply : Reply) (new : State) → s.closed ≡ false → agent < length s.paths → StandsStill site s →
    Answers site s reply (Event.Request agent) new → reply ≡ Reply.Rested
rested_only site s agent (Reply.Refused Refusal.Closed) new opens known still step = absurd (false≢true (sym opens ∙ step.0))
rested_only site s agent (Reply.Refused (Refusal.UnknownAgent told)) new opens known still step = absurd (let h = step.0.1 in omega arith)
rested_only site s agent (Reply.Refused (Refusal.Moving left)) new opens known still step = absurd (step.0.2 (idle-none site s agent left (inl (still.resting agent known)) step.0.1))
rested_only site s agent (Reply.Refused Refusal.NoPath) new opens known still step = absurd (elim step.0.1 [
  | inl w ↦ none-next site s agent w.0 w.1 (still.told agent known) w.2
  | inr w ↦ none-way site s agent (still.told agent known) w.0
])
rested_only site s agent (Reply.Refused refusal) new opens known still step = absurd step.0
rested_only site s agent (Reply.Took n path) new opens known still step = absurd (none-next site s agent n step.1.0 (still.told agent known) step.1.1)
rested_only site s agent Reply.Rested new opens known still step = refl
rested_only site s agent (Reply.Parked point path) new opens known still step = absurd (none-way site s agent (still.told agent known) step.1)
rested_only site s agent reply new opens known still step = absurd step
