-- Runs and rounds, from steps: of what is left to do nothing is said but what each step does to it (Turns), so that another measure,
-- under another rule of who makes way, can take its place.
use Rattle.std.proofs.Common.{◌≡◌, ◌≢◌, ℕ, ◌+◌, ◌<◌, ◌≤◌, List, [], ◌∷◌, ◌++◌, false, length, map, refl, sym, ap, subst, arith, ◌∙◌, ◌⊎◌, inl, inr}
use Prim.Native.Nat.{suc}
use Rattle.std.specs.Prelude.{All, Contains}
use Rattle.std.proofs.lemmas.Bool.{cases_eq, cases_lt}
use Rattle.std.proofs.lemmas.List.Elements.{All-head, All-tail}
use Rattle.wh_grid.specs.declared.cell.Cell.{Cell}
use Rattle.wh_path.specs.Paths.{end_of, steps_left, horizon, others, ends}
use Rattle.wh_points.specs.Points.{Site}
use Rattle.wh_field.proofs.Tables.{Contains-none, Contains-cases}
use Rattle.wh_core.specs.States.{State}
use Rattle.wh_core.specs.Steps.{Step, Run, IsDue, IsBerth}
use Rattle.wh_core.specs.Laws.{IsReachedOnTheirWays, AllOnTheirWays}
use Rattle.wh_core.proofs.Work.{IsKept}
use Rattle.wh_core.proofs.Sound.{kept-reached, ways-reached, ways-unloaded, none-halted}
use Rattle.wh_event.specs.declared.event.Event.{Event}
use Rattle.wh_event.specs.declared.reply.Refusal.{Refusal}
use Rattle.wh_event.specs.declared.reply.Reply.{Reply}
use Rattle.wh_event.specs.declared.entry.Entry.{Entry}
use Rattle.wh_progress.specs.Progress.{HaveAtMost, HasAsked, FindPaths, IsRound, Rounds, open_tasks, MayRest, StandsStill, StoodStill}
use Rattle.wh_progress.proofs.Turns.{NoMore, Less, AreKept, Turn, brings, keeps}
use Rattle.wh_progress.proofs.Standing.{idle_rests}
use Rattle.wh_progress.proofs.Horizons.{steps-few}
use Rattle.wh_core.proofs.Later.{later-run}
use Rattle.wh_progress.proofs.Reaching.{reached-run, reached-step, open-before, few-before, rounds-later}

-- what steps do to a measure, where no task of the state after them has more stops than so many
abbrev pub EachTurns : Site → ℕ → (State → ℕ) → (State → ℕ) → Type 0
EachTurns site stops left added =
    (before : List Entry) (old : State) (entry : Entry) (new : State) → IsReachedOnTheirWays site before old → HaveAtMost stops old → Step site old entry new →
    Turn site left added entry.reply entry.event old new

-- a run that brings nothing down: nothing was changed but by tasks that were added, and whoever was due and asked may rest
pub record Stays (site : Site) (left added : State → ℕ) (old : State) (entries : List Entry) (new : State) : Type 0 where
  pub no_more : NoMore left added old new
  pub kept : AreKept old new
  pub rests : (agent : ℕ) → IsDue site old agent → HasAsked entries agent → MayRest site old agent

-- what may rest with more tasks may rest with fewer
rest-before : (site : Site) (old new : State) (agent : ℕ) → IsKept site old → AllOnTheirWays site old → IsDue site old agent → AreKept old new → MayRest site new agent → MayRest site old agent
rest-before site old new agent sound home due kept rest = record {
  none = (
    ways-unloaded site old agent sound home due,
    λ n task e. rest.none.1 n task (record {
      there = kept.tasks n task e.there;
      is_open = e.is_open;
      clear = subst (λ ps. All (λ stop. ¬ Contains (ends (others ps agent)) stop) task.stops) (sym kept.paths) e.clear;
    }),
  );
  stays = record {
    berth = subst (λ ps. IsBerth site agent (end_of ps agent)) kept.paths rest.stays.berth;
    not_wanted = λ wanted. elim wanted.1 [
      | inl at_it ↦ rest.stays.not_wanted (wanted.0, inl (at_it.0, at_it.1, kept.tasks at_it.0 at_it.1 at_it.2, at_it.3, at_it.4 ∙ ap (λ ps. end_of ps agent) (sym kept.paths)))
      | inr awaited ↦ none-halted site old awaited.0 awaited.1 sound home awaited.2
    ];
  };
}

due-after : (site : Site) (old new : State) (agent : ℕ) → AreKept old new → new.closed ≡ false → IsDue site old agent → IsDue site new agent
due-after site old new agent kept opens due = record {
  known = record { not_closed = opens; known = subst (λ (ps : List (List Cell)). agent < length ps) (sym kept.paths) due.known.known };
  idle = elim due.idle [
    | inl rests ↦ inl (subst (λ ps. steps_left ps agent ≡ 0) (sym kept.paths) rests)
    | inr free ↦ inr (free.0, kept.loads agent free.1)
  ];
}

kept-trans : (a b c : State) → AreKept a b → AreKept b c → AreKept a c
kept-trans a b c h k = record {
  paths = k.paths ∙ h.paths;
  tasks = λ n task is. k.tasks n task (h.tasks n task is);
  loads = λ agent free. k.loads agent (h.loads agent free);
  clock = λ goes. elim (cases_lt a.clock b.clock) [
    | inl first ↦ h.clock first
    | inr not_first ↦ ap horizon (sym h.paths) ∙ k.clock (omega arith)
  ];
}

-- a run brings it down, or stays
pub run-turn : (site : Site) (stops : ℕ) (left added : State → ℕ) → EachTurns site stops left added →
    (before : List Entry) (old : State) (entries : List Entry) (new : State) → IsReachedOnTheirWays site before old → HaveAtMost stops new → new.closed ≡ false →
    FindPaths entries → Run site old entries new → Less left added old new ⊎ Stays site left added old entries new
run-turn site stops left added turns before old [] new r few opens finds run =
    subst (λ s. Less left added old s ⊎ Stays site left added old [] s) (sym run) (inr (record {
      no_more = omega arith;
      kept = record { paths = refl; tasks = λ n task is. is; loads = λ agent free. free; clock = λ goes. absurd (omega arith) };
      rests = λ agent due asked. absurd (Contains-none (Event.Request agent) asked);
    }))
run-turn site stops left added turns before old (entry ∷ entries) new r few opens finds run =
    let mid = run.0 in
    let Finds : Entry → Type 0 = λ e. e.reply ≢ Reply.Refused Refusal.NoPath in
    let later = later-run site mid entries new run.2 in
    let all_later = later-run site old (entry ∷ entries) new run in
    let first = turns before old entry mid r (few-before stops old new all_later few) run.1 in
    let mid_opens = open-before site mid entries new run.2 opens in
    let rest = run-turn site stops left added turns (before ++ entry ∷ []) mid entries new (reached-step site before old entry mid r run.1) few opens (All-tail Finds entry entries finds) run.2 in
    elim first [
      | brings less ↦ elim rest [
        | inl lesser ↦ inl (omega arith)
        | inr stays ↦ (let no_more = stays.no_more in inl (omega arith))
      ]
      | keeps no_more kept rests ↦ elim rest [
        | inl lesser ↦ inl (omega arith)
        | inr stays ↦ inr (record {
          no_more = (let m = stays.no_more in omega arith);
          kept = kept-trans old mid new kept stays.kept;
          rests = λ agent due asked. elim (Contains-cases (Event.Request agent) entry.event (map (λ (e : Entry). e.event) entries) asked) [
            | inl is ↦ rests agent is (All-head Finds entry entries finds) due
            | inr more ↦ rest-before site old mid agent (kept-reached site before old r.reached) (ways-reached site before old r) due kept
                (stays.rests agent (due-after site old mid agent kept mid_opens due) more)
          ];
        })
      ]
    ]

-- no run raises it but by what was added
pub run-no_more : (site : Site) (stops : ℕ) (left added : State → ℕ) (before : List Entry) (old : State) (entry : Entry) (new : State) → EachTurns site stops left added →
    IsReachedOnTheirWays site before old → HaveAtMost stops new → Step site old entry new → NoMore left added old new
run-no_more site stops left added before old entry new turns r few step =
    let later = later-run site old (entry ∷ []) new (new, step, refl) in
    elim (turns before old entry new r (few-before stops old new later few) step) [
      | brings less ↦ omega arith
      | keeps no_more kept rests ↦ no_more
    ]

-- a round brings it down, or all stands still as it begins
pub round-turn : (site : Site) (stops : ℕ) (left added : State → ℕ) → EachTurns site stops left added →
    (before : List Entry) (old : State) (entries : List Entry) (new : State) → IsReachedOnTheirWays site before old → HaveAtMost stops new → IsRound site old entries new → FindPaths entries →
    Less left added old new ⊎ StandsStill site old
round-turn site stops left added turns before old entries new r few round finds =
    elim (run-turn site stops left added turns before old entries new r few round.not_closed finds round.run) [
      | inl less ↦ inl less
      | inr stays ↦
          let none = stays.kept.clock round.goes_on in
          let resting : (agent : ℕ) → agent < length old.paths → steps_left old.paths agent ≡ 0 =
          λ agent known. (let few_left = steps-few old.paths agent known in omega arith) in
          inr (record {
            resting = resting;
            told = λ agent known. elim (cases_eq (open_tasks old) 0) [
              | inl idle ↦ idle_rests site old agent (kept-reached site before old r.reached) (ways-reached site before old r) known (resting agent known) idle
              | inr some ↦
                  let due : IsDue site old agent = record {
                    known = record { not_closed = open-before site old entries new round.run round.not_closed; known = known };
                    idle = inl (resting agent known);
                  } in
                  stays.rests agent due (round.asked (omega arith) agent due)
            ];
          })
    ]

-- after as many rounds as are left, all stands still, or stood so before
pub rounds-still : (site : Site) (stops : ℕ) (left added : State → ℕ) → EachTurns site stops left added →
    ((entries : List Entry) (s : State) → IsReachedOnTheirWays site entries s → left s ≡ 0 → StandsStill site s) →
    (before : List Entry) (old : State) (rounds : List (List Entry)) (new : State) → IsReachedOnTheirWays site before old → HaveAtMost stops new → Rounds site old rounds new → All FindPaths rounds →
    left old + added new ≤ length rounds + added old → StoodStill site old rounds new
rounds-still site stops left added turns zero-still before old [] new r few run finds enough =
    let same : added new ≡ added old = ap added run in
    record {
      count = 0;
      within = omega arith;
      state = new;
      before = run;
      after = refl;
      still = zero-still before new (subst (λ s. IsReachedOnTheirWays site before s) (sym run) r) (let e : left new ≡ left old = ap left run in omega arith);
    }
rounds-still site stops left added turns zero-still before old (round ∷ rounds) new r few run finds enough =
    let mid = run.0 in
    let mid_few = few-before stops mid new (rounds-later site mid rounds new run.2) few in
    elim (round-turn site stops left added turns before old round mid r mid_few run.1 (All-head FindPaths round rounds finds)) [
      | inr still ↦ record { count = 0; within = omega arith; state = old; before = refl; after = run; still = still }
      | inl less ↦
          let rest = rounds-still site stops left added turns zero-still (before ++ round) mid rounds new
          (reached-run site before round old mid r run.1.run) few run.2 (All-tail FindPaths round rounds finds) (omega arith) in
          record {
            count = suc rest.count;
            within = (let h = rest.within in omega arith);
            state = rest.state;
            before = (mid, run.1, rest.before);
            after = rest.after;
            still = rest.still;
          }
    ]
