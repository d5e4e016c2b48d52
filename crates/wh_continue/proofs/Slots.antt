-- How many slots each agent's planner has after a run.
use Rattle.std.proofs.Common.{ℕ, suc, List, [], ◌∷◌, refl, sym, subst, All}
use Rattle.std.proofs.lemmas.List.Elements.{All-set}
use Rattle.wh_points.specs.Points.{Site}
use Rattle.wh_core.specs.States.{State}
use Rattle.wh_core.specs.Steps.{Answers, Run}
use Rattle.wh_event.specs.declared.entry.Entry.{Entry}
use Rattle.wh_event.specs.declared.event.Event.{Event}
use Rattle.wh_event.specs.declared.event.Spare.{Spare}
use Rattle.wh_event.specs.declared.reply.Reply.{Reply}
use Rattle.wh_log.specs.Logs.{IsSlots}
use Rattle.wh_continue.specs.Starting.{HasOwnSlots, AllOwn}

slots_answer : (site : Site) (old : State) (reply : Reply) (event : Event) (new : State) → Answers site old reply event new
    → HasOwnSlots reply → All IsSlots old.slots → All IsSlots new.slots
slots_answer site old (Reply.Refused refusal) event new step own all = subst (λ (s : State). All IsSlots s.slots) (sym step.1) all
slots_answer site old (Reply.Accepted n) (Event.Submit client stops) new step own all = subst (λ (s : State). All IsSlots s.slots) (sym step.5.2) all
slots_answer site old (Reply.Took n path) (Event.Request agent) new step own all = subst (λ (s : State). All IsSlots s.slots) (sym step.1.3) all
slots_answer site old Reply.Rested (Event.Request agent) new step own all = subst (λ (s : State). All IsSlots s.slots) (sym step.3) all
slots_answer site old (Reply.Parked point path) (Event.Request agent) new step own all = subst (λ (s : State). All IsSlots s.slots) (sym step.4) all
slots_answer site old (Reply.Clock now first last) Event.Tick new step own all = subst (λ (s : State). All IsSlots s.slots) (sym step.5) all
slots_answer site old (Reply.Replaced slots) (Event.Replace agent (Spare.Fits count)) new step own all =
    subst (λ (s : State). All IsSlots s.slots) (sym step.2) (All-set IsSlots old.slots agent count (subst IsSlots step.1 own) all)
slots_answer site old Reply.Closed Event.Close new step own all = subst (λ (s : State). All IsSlots s.slots) (sym step.1) all
slots_answer site old reply event new step own all = absurd step

pub slots_run : (site : Site) (old : State) (entries : List Entry) (new : State) → Run site old entries new
    → AllOwn entries → All IsSlots old.slots → All IsSlots new.slots
slots_run site old [] new run own all = subst (λ (s : State). All IsSlots s.slots) (sym run) all
slots_run site old (entry ∷ entries) new run own all =
    slots_run site run.0 entries new run.2 (λ (k : ℕ) (e : Entry) there. own (suc k) e there)
    (slots_answer site old entry.reply entry.event run.0 run.1 (own 0 entry refl) all)
