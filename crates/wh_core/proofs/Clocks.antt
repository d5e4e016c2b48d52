-- the clock never falls, and a closed warehouse stays as it is
use Rattle.std.proofs.Common.{◌≡◌, ◌≤◌, ◌∙◌, List, [], ◌∷◌, Bool, true, false, sym, refl, ap, arith}
use Rattle.std.specs.Prelude.{All}
use Rattle.std.proofs.lemmas.List.Elements.{All-nil, All-cons}
use Rattle.std.proofs.lemmas.Bool.{false≢true}
use Rattle.wh_points.specs.Points.{Site}
use Rattle.wh_core.specs.States.{State}
use Rattle.wh_core.specs.Steps.{Refuses, Answers, Run}
use Rattle.wh_event.specs.declared.event.Spare.{Spare}
use Rattle.wh_event.specs.declared.event.Event.{Event}
use Rattle.wh_event.specs.declared.reply.Refusal.{Refusal}
use Rattle.wh_event.specs.declared.reply.Reply.{Reply}
use Rattle.wh_event.specs.declared.entry.Entry.{Entry}
use Rattle.wh_core.proofs.StepKinds.{Moves, stays, adds, takes, continues, parks, ticks, step-moves}

pub clock-moves : (site : Site) (old new : State) → Moves site old new → old.clock ≤ new.clock
clock-moves site old new m = elim m [
  | stays c p l t z ↦ omega arith
  | adds client names cells room few many stations e ↦ (let c = ap (λ s. s.clock) e in omega arith)
  | continues agent n task path due own lawful e ↦ (let c = ap (λ s. s.clock) e in omega arith)
  | takes agent n task path due none next lawful e ↦ (let c = ap (λ s. s.clock) e in omega arith)
  | parks agent path due way lawful e ↦ (let c = ap (λ s. s.clock) e in omega arith)
  | ticks fits e ↦ (let c = ap (λ s. s.clock) e in omega arith)
]

pub clock-run : (site : Site) (old : State) (entries : List Entry) (new : State) → Run site old entries new → old.clock ≤ new.clock
clock-run site old [] new run = (let c = ap (λ s. s.clock) run in omega arith)
clock-run site old (entry ∷ entries) new run =
    let first = clock-moves site old run.0 (step-moves site old entry run.0 run.1) in
    let rest = clock-run site run.0 entries new run.2 in
    omega arith

both : (b : Bool) → b ≡ true → b ≡ false → ⊥
both b t f = false≢true (sym f ∙ t)

refused-closed : (site : Site) (s : State) (refusal : Refusal) (event : Event) → s.closed ≡ true → Refuses site s refusal event → refusal ≡ Refusal.Closed
refused-closed site s Refusal.Closed event closed why = refl
refused-closed site s (Refusal.UnknownPoint name) (Event.Submit client stops) closed why = absurd (both s.closed closed why.0)
refused-closed site s (Refusal.NotStation name) (Event.Submit client stops) closed why = absurd (both s.closed closed why.0)
refused-closed site s Refusal.TasksFull (Event.Submit client stops) closed why = absurd (both s.closed closed why.0)
refused-closed site s (Refusal.UnknownAgent told) (Event.Request agent) closed why = absurd (both s.closed closed why.0)
refused-closed site s (Refusal.Moving left) (Event.Request agent) closed why = absurd (both s.closed closed why.0.not_closed)
refused-closed site s Refusal.NoPath (Event.Request agent) closed why = absurd (both s.closed closed why.0.known.not_closed)
refused-closed site s Refusal.ClockFull Event.Tick closed why = absurd (both s.closed closed why.0)
refused-closed site s (Refusal.UnknownAgent told) (Event.Replace agent spare) closed why = absurd (both s.closed closed why.0)
refused-closed site s Refusal.NoSpare (Event.Replace agent Spare.None) closed why = absurd (both s.closed closed why.not_closed)
refused-closed site s Refusal.ForeignPlanner (Event.Replace agent Spare.Foreign) closed why = absurd (both s.closed closed why.not_closed)
refused-closed site s refusal event closed why = absurd why

answered-closed : (site : Site) (old : State) (reply : Reply) (event : Event) (new : State) → old.closed ≡ true → Answers site old reply event new →
    (reply ≡ Reply.Refused Refusal.Closed) × (new ≡ old)
answered-closed site old (Reply.Refused refusal) event new closed step =
    (ap (λ r. Reply.Refused r) (refused-closed site old refusal event closed step.0), step.1)
answered-closed site old (Reply.Accepted n) (Event.Submit client stops) new closed step = absurd (both old.closed closed step.0)
answered-closed site old (Reply.Took n path) (Event.Request agent) new closed step = absurd (both old.closed closed step.0.known.not_closed)
answered-closed site old Reply.Rested (Event.Request agent) new closed step = absurd (both old.closed closed step.0.known.not_closed)
answered-closed site old (Reply.Parked point path) (Event.Request agent) new closed step = absurd (both old.closed closed step.0.known.not_closed)
answered-closed site old (Reply.Clock now first last) Event.Tick new closed step = absurd (both old.closed closed step.0)
answered-closed site old (Reply.Replaced slots) (Event.Replace agent (Spare.Fits count)) new closed step = absurd (both old.closed closed step.0.not_closed)
answered-closed site old Reply.Closed Event.Close new closed step = absurd (both old.closed closed step.0)
answered-closed site old reply event new closed step = absurd step

pub closed-run : (site : Site) (old : State) (entries : List Entry) (new : State) → old.closed ≡ true → Run site old entries new →
    (new ≡ old) × All (λ entry. entry.reply ≡ Reply.Refused Refusal.Closed) entries
closed-run site old [] new closed run = (run, All-nil (λ entry. entry.reply ≡ Reply.Refused Refusal.Closed))
closed-run site old (entry ∷ entries) new closed run =
    let P : Entry → Type 0 = λ e. e.reply ≡ Reply.Refused Refusal.Closed in
    let first = answered-closed site old entry.reply entry.event run.0 closed run.1 in
    let rest = closed-run site run.0 entries new (ap (λ s. s.closed) first.1 ∙ closed) run.2 in
    (rest.0 ∙ first.1, All-cons P entry entries first.0 rest.1)
