-- The places of entries in a history, and the clocks before them.
use Rattle.std.proofs.Common.{◌≡◌, ℕ, List, [], ◌∷◌, ◌++◌, ◌+◌, length, refl, sym, ap, ◌∙◌, arith, Option, None, Some, length-append, suc}
use Rattle.wh_points.specs.Points.{Site}
use Rattle.wh_core.specs.States.{State}
use Rattle.wh_core.specs.Steps.{Answers, Run}
use Rattle.wh_token.specs.Runs.{entries_of}
use Rattle.wh_event.specs.declared.entry.Entry.{Entry}
use Rattle.wh_event.specs.declared.event.Event.{Event}
use Rattle.wh_event.specs.declared.event.Spare.{Spare}
use Rattle.wh_event.specs.declared.reply.Reply.{Reply}
use Rattle.wh_log.specs.Told.{Answered}
use Rattle.wh_replay.specs.Answers.{answered_from, clock_after, clock_behind}

-- ---- clocks

step_clock : (site : Site) (old : State) (reply : Reply) (event : Event) (new : State) → Answers site old reply event new → new.clock ≡ clock_after old.clock reply
step_clock site old (Reply.Refused refusal) event new step = ap (λ (s : State). s.clock) step.1
step_clock site old (Reply.Accepted n) (Event.Submit client stops) new step = ap (λ (s : State). s.clock) step.5.2
step_clock site old (Reply.Took n path) (Event.Request agent) new step = ap (λ (s : State). s.clock) step.1.3
step_clock site old Reply.Rested (Event.Request agent) new step = ap (λ (s : State). s.clock) step.3
step_clock site old (Reply.Parked point path) (Event.Request agent) new step = ap (λ (s : State). s.clock) step.4
step_clock site old (Reply.Clock now first last) Event.Tick new step = ap (λ (s : State). s.clock) step.5 ∙ sym step.2
step_clock site old (Reply.Replaced slots) (Event.Replace agent (Spare.Fits count)) new step = ap (λ (s : State). s.clock) step.2
step_clock site old Reply.Closed Event.Close new step = ap (λ (s : State). s.clock) step.1
step_clock site old reply event new step = absurd step

pub run_clock : (site : Site) (old : State) (entries : List Entry) (new : State) → Run site old entries new → new.clock ≡ clock_behind old.clock entries
run_clock site old [] new run = ap (λ (s : State). s.clock) run
run_clock site old (entry ∷ entries) new run =
    run_clock site run.0 entries new run.2
    ∙ ap (λ (n : ℕ). clock_behind n entries) (step_clock site old entry.reply entry.event run.0 run.1)

-- ---- what outcomes answer

pub answered_length : (place clock : ℕ) (os : List (Option Entry)) → length (answered_from place clock os) ≡ length os
answered_length place clock [] = refl
answered_length place clock (None ∷ os) = ap suc (answered_length place clock os)
answered_length place clock (Some e ∷ os) = ap suc (answered_length (place + 1) (clock_after clock e.reply) os)

answered_append : (place clock : ℕ) (os ps : List (Option Entry))
    → answered_from place clock (os ++ ps) ≡ answered_from place clock os ++ answered_from (place + length (entries_of os)) (clock_behind clock (entries_of os)) ps
answered_append place clock [] ps = ap (λ (n : ℕ). answered_from n clock ps) (omega arith)
answered_append place clock (None ∷ os) ps = ap (λ (l : List (Option Answered)). None ∷ l) (answered_append place clock os ps)
answered_append place clock (Some e ∷ os) ps =
    let after = clock_after clock e.reply in
    let same : (place + 1) + length (entries_of os) ≡ place + suc (length (entries_of os)) = omega arith in
    ap (λ (l : List (Option Answered)). Some (record { place = place; clock = clock; reply = e.reply }) ∷ l)
    (answered_append (place + 1) after os ps
    ∙ ap (λ (n : ℕ). answered_from (place + 1) after os ++ answered_from n (clock_behind after (entries_of os)) ps) same)

-- What more outcomes answer behind a run: their places and clocks are those behind its entries.
pub answered_behind : (site : Site) (old mid : State) (history later : List Entry) (os ps : List (Option Entry))
    → later ≡ history ++ entries_of os → Run site old (entries_of os) mid
    → answered_from (length history) old.clock (os ++ ps) ≡ answered_from (length history) old.clock os ++ answered_from (length later) mid.clock ps
answered_behind site old mid history later os ps grown run =
    let place : length history + length (entries_of os) ≡ length later = sym (ap length grown ∙ length-append history (entries_of os)) in
    answered_append (length history) old.clock os ps
    ∙ ap (λ (n : ℕ). answered_from (length history) old.clock os ++ answered_from n (clock_behind old.clock (entries_of os)) ps) place
    ∙ ap (λ (n : ℕ). answered_from (length history) old.clock os ++ answered_from (length later) n ps) (sym (run_clock site old (entries_of os) mid run))
