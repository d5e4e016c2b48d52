-- a due agent stays due until it asks
use Rattle.std.proofs.Common.{◌≡◌, ◌≢◌, ℕ, ◌<◌, List, [], ◌∷◌, false, length, get_or, map, set, refl, sym, ap, subst, arith, ◌∙◌, ◌⊎◌, inl, inr}
use Prim.Native.Nat.{zero, suc}
use Rattle.std.proofs.lemmas.Bool.{false≢true, cases_eq}
use Rattle.std.proofs.lemmas.List.{length-map, length-set, get_or-set_other}
use Rattle.wh_grid.specs.declared.cell.Cell.{Cell}
use Rattle.wh_path.specs.Paths.{last_index, place_of, steps_left, advanced}
use Rattle.wh_tasks.specs.declared.task.Load.{Load}
use Rattle.wh_points.specs.Points.{Site}
use Rattle.wh_field.proofs.Tables.{Contains-first, Contains-later}
use Rattle.wh_tasks.specs.declared.task.Task.{Task}
use Rattle.wh_tasks.specs.Arrivals.{arrived_load, arrived_tasks}
use Rattle.wh_core.specs.States.{State, load_of, arrived, adopted, assigned, moved}
use Rattle.wh_core.specs.Steps.{Answers, Run, IsIdle, IsDue}
use Rattle.wh_event.specs.declared.event.Spare.{Spare}
use Rattle.wh_event.specs.declared.event.Event.{Event}
use Rattle.wh_event.specs.declared.reply.Reply.{Reply}
use Rattle.wh_event.specs.declared.entry.Entry.{Entry}
use Rattle.wh_progress.specs.Progress.{HasAsked}
use Rattle.wh_progress.proofs.Horizons.{steps-advanced}
use Rattle.wh_progress.proofs.Reaching.{open-before}

-- an agent without a load has none after arrivals
pub unloaded-arrived : (s : State) (agent : ℕ) → load_of s agent ≡ Load.None → load_of (arrived s) agent ≡ Load.None
unloaded-arrived s agent none = mapped s.loads agent none
  where
    mapped : (loads : List Load) (i : ℕ) → get_or loads i Load.None ≡ Load.None →
        get_or (map (arrived_load (arrived_tasks s.clock (place_of s.paths) s.tasks)) loads) i Load.None ≡ Load.None
    mapped [] i none = refl
    mapped (l ∷ loads) zero none = ap (arrived_load (arrived_tasks s.clock (place_of s.paths) s.tasks)) none
    mapped (l ∷ loads) (suc i) none = mapped loads i none

-- an idle agent is so later if it has no more steps left and no load that it had not
idle-on : (site : Site) (old new : State) (agent : ℕ) → (steps_left old.paths agent ≡ 0 → steps_left new.paths agent ≡ 0) →
    (load_of old agent ≡ Load.None → load_of new agent ≡ Load.None) → IsIdle site old agent → IsIdle site new agent
idle-on site old new agent rests free idle = elim idle [
  | inl r ↦ inl (rests r)
  | inr f ↦ inr (f.0, free f.1)
]

-- with the same paths and loads
due-same : (site : Site) (old new : State) (agent : ℕ) → new.paths ≡ old.paths → new.loads ≡ old.loads → new.closed ≡ false → IsDue site old agent → IsDue site new agent
due-same site old new agent p l opens due = record {
  known = record { not_closed = opens; known = subst (λ (ps : List (List Cell)). agent < length ps) (sym p) due.known.known };
  idle = idle-on site old new agent (λ r. subst (λ ps. steps_left ps agent ≡ 0) (sym p) r) (λ f. ap (λ ls. get_or ls agent Load.None) l ∙ f) due.idle;
}

-- another agent has another path
due-set : (site : Site) (old new : State) (agent other : ℕ) (path : List Cell) → new.paths ≡ set old.paths other path →
    (load_of old agent ≡ Load.None → load_of new agent ≡ Load.None) → new.closed ≡ false → agent ≢ other → IsDue site old agent → IsDue site new agent
due-set site old new agent other path p free opens ne due = record {
  known = record {
    not_closed = opens;
    known = subst (λ (ps : List (List Cell)). agent < length ps) (sym p) (let e = length-set old.paths other path in let h = due.known.known in omega arith);
  };
  idle = idle-on site old new agent
      (λ r. subst (λ ps. steps_left ps agent ≡ 0) (sym p) (ap (λ (q : List Cell). last_index q) (get_or-set_other old.paths other agent path [] ne) ∙ r)) free due.idle;
}

-- each goes on by a step
due-moved : (site : Site) (old new : State) (agent : ℕ) → new.paths ≡ map advanced old.paths → (load_of old agent ≡ Load.None → load_of new agent ≡ Load.None) →
    new.closed ≡ false → IsDue site old agent → IsDue site new agent
due-moved site old new agent p free opens due = record {
  known = record {
    not_closed = opens;
    known = subst (λ (ps : List (List Cell)). agent < length ps) (sym p) (let e = length-map old.paths advanced in let h = due.known.known in omega arith);
  };
  idle = idle-on site old new agent (λ r. subst (λ ps. steps_left ps agent ≡ 0) (sym p) (let e = steps-advanced old.paths agent due.known.known in omega arith)) free due.idle;
}

taken-free : (s : State) (agent asking n : ℕ) (task : Task) (path : List Cell) (new : State) → agent ≢ asking → new ≡ arrived (adopted asking path (assigned asking n task s)) →
    load_of s agent ≡ Load.None → load_of new agent ≡ Load.None
taken-free s agent asking n task path new ne e none =
    ap (λ t. load_of t agent) e
    ∙ unloaded-arrived (adopted asking path (assigned asking n task s)) agent (get_or-set_other s.loads asking agent (Load.Fetching n) Load.None ne ∙ none)

due-step : (site : Site) (old : State) (reply : Reply) (event : Event) (new : State) (agent : ℕ) → Answers site old reply event new → new.closed ≡ false →
    IsDue site old agent → IsDue site new agent ⊎ (event ≡ Event.Request agent)
due-step site old (Reply.Refused refusal) event new agent step opens due = inl (due-same site old new agent (ap (λ s. s.paths) step.1) (ap (λ s. s.loads) step.1) opens due)
due-step site old (Reply.Accepted n) (Event.Submit client stops) new agent step opens due = inl (due-same site old new agent (ap (λ s. s.paths) step.5.2) (ap (λ s. s.loads) step.5.2) opens due)
due-step site old (Reply.Took n path) (Event.Request asking) new agent step opens due = elim (cases_eq agent asking) [
  | inl e ↦ inr (ap (λ a. Event.Request a) (sym e))
  | inr ne ↦ inl (due-set site old new agent asking path (ap (λ s. s.paths) step.1.3) (taken-free old agent asking n step.1.0 path new ne step.1.3) opens ne due)
]
due-step site old Reply.Rested (Event.Request asking) new agent step opens due = inl (due-same site old new agent (ap (λ s. s.paths) step.3) (ap (λ s. s.loads) step.3) opens due)
due-step site old (Reply.Parked point path) (Event.Request asking) new agent step opens due = elim (cases_eq agent asking) [
  | inl e ↦ inr (ap (λ a. Event.Request a) (sym e))
  | inr ne ↦ inl (due-set site old new agent asking path (ap (λ s. s.paths) step.4) (λ f. ap (λ s. load_of s agent) step.4 ∙ f) opens ne due)
]
due-step site old (Reply.Clock now first last) Event.Tick new agent step opens due = inl (due-moved site old new agent (ap (λ s. s.paths) step.5) (λ f. ap (λ s. load_of s agent) step.5 ∙ unloaded-arrived (moved old) agent f) opens due)
due-step site old (Reply.Replaced slots) (Event.Replace asking (Spare.Fits count)) new agent step opens due =
    inl (due-same site old new agent (ap (λ s. s.paths) step.2) (ap (λ s. s.loads) step.2) opens due)
due-step site old Reply.Closed Event.Close new agent step opens due = absurd (false≢true (sym opens ∙ ap (λ s. s.closed) step.1))
due-step site old reply event new agent step opens due = absurd step

pub due_until_asked : (site : Site) (s : State) (entries : List Entry) (new : State) (agent : ℕ) → Run site s entries new → new.closed ≡ false → IsDue site s agent →
    IsDue site new agent ⊎ HasAsked entries agent
due_until_asked site s [] new agent run opens due = inl (subst (λ t. IsDue site t agent) (sym run) due)
due_until_asked site s (entry ∷ entries) new agent run opens due =
    elim (due-step site s entry.reply entry.event run.0 agent run.1 (open-before site run.0 entries new run.2 opens) due) [
      | inr e ↦ inr (subst (λ v. HasAsked (record entry { event = v } ∷ entries) agent) (sym e) (Contains-first (Event.Request agent) (map (λ (x : Entry). x.event) entries)))
      | inl on ↦ elim (due_until_asked site run.0 entries new agent run.2 opens on) [
        | inl still ↦ inl still
        | inr asked ↦ inr (Contains-later (Event.Request agent) entry.event (map (λ (x : Entry). x.event) entries) asked)
      ]
    ]
