-- tasks only go on
use Rattle.std.proofs.Common.{◌≡◌, ℕ, ◌≤◌, ◌∙◌, inl, inr, List, [], ◌∷◌, ◌++◌, Bool, true, false, Option, Some, None, length, sym, subst, refl, ap, arith, append-nil, append_assoc, length-append}
use Prim.Native.Nat.{zero, suc}
use Rattle.std.specs.Prelude.{nat_lt, replicate, slice_get}
use Rattle.std.proofs.Math.ListN.{set}
use Rattle.std.proofs.lemmas.Bool.{cases_eq}
use Rattle.std.proofs.lemmas.Option.{slice_get_within, same_Some}
use Rattle.wh_grid.specs.declared.cell.Cell.{Cell}
use Rattle.wh_points.specs.Points.{Site}
use Rattle.wh_tasks.specs.declared.task.Task.{Task}
use Rattle.wh_tasks.specs.declared.task.Phase.{Phase}
use Rattle.wh_tasks.specs.Tasks.{IsTask, visited, carried_or_done, phase_of, phase}
use Rattle.wh_tasks.specs.Arrivals.{arrived_task, arrived_tasks}
use Rattle.wh_tasks.proofs.Visiting.{arrived-adds}
use Rattle.wh_core.specs.States.{State}
use Rattle.wh_core.specs.Steps.{Run}
use Rattle.wh_core.specs.Laws.{IsForward, IsLater}
use Rattle.wh_event.specs.declared.entry.Entry.{Entry}
use Rattle.wh_core.proofs.StepKinds.{Moves, stays, adds, takes, continues, parks, ticks, step-moves}
use Rattle.wh_core.proofs.Lists.{slice_get-append, slice_get-set_same, slice_get-set_other, map-at}

forward-carried : (b c : Bool) → (b ≡ false → c ≡ false) → IsForward (carried_or_done b) (carried_or_done c)
forward-carried true true h = tt
forward-carried true false h = tt
forward-carried false true h = absurd (let e : true ≡ false = h refl in cc)
forward-carried false false h = tt

forward-started : (c : Bool) → IsForward Phase.Assigned (carried_or_done c)
forward-started true = tt
forward-started false = tt

-- with more visits and the same agent the phase goes forward
forward-phase : (agent later : Option ℕ) (seen more stops : ℕ) → ((a : ℕ) → agent ≡ Some a → later ≡ Some a) → seen ≤ more →
    IsForward (phase_of agent seen stops) (phase_of later more stops)
forward-phase None later seen more stops keeps h = tt
forward-phase (Some a) None seen more stops keeps h = absurd (let e : None ≡ Some a = keeps a refl in cc)
forward-phase (Some a) (Some b) zero zero stops keeps h = tt
forward-phase (Some a) (Some b) zero (suc more) stops keeps h = forward-started (nat_lt (suc more) stops)
forward-phase (Some a) (Some b) (suc seen) zero stops keeps h = absurd (omega arith)
forward-phase (Some a) (Some b) (suc seen) (suc more) stops keeps h =
    forward-carried (nat_lt (suc seen) stops) (nat_lt (suc more) stops) (λ e. grind arith)

-- the same task with perhaps an agent in place of none, and more visits
later-from : (old new : Task) → new.client ≡ old.client → new.stops ≡ old.stops → new.submitted ≡ old.submitted →
    ((a : ℕ) → old.agent ≡ Some a → new.agent ≡ Some a) → (more : List ℕ) → new.visits ≡ old.visits ++ more → IsLater old new
later-from old new client stops submitted agent more visits = record {
  client = client;
  stops = stops;
  submitted = submitted;
  agent = agent;
  visits = (more, visits);
  forward =
      let h : visited old ≤ visited new = (let e = ap (λ (v : List ℕ). length v) visits ∙ length-append old.visits more in omega arith) in
      subst (λ n. IsForward (phase old) (phase_of new.agent (visited new) n)) (ap (λ (c : List Cell). length c) (sym stops))
      (forward-phase old.agent new.agent (visited old) (visited new) (length old.stops) agent h);
}

pub later-refl : (task : Task) → IsLater task task
later-refl task = later-from task task refl refl refl (λ a e. e) [] (sym (append-nil task.visits))

pub later-trans : (s t u : Task) → IsLater s t → IsLater t u → IsLater s u
later-trans s t u h k = later-from s u (k.client ∙ h.client) (k.stops ∙ h.stops) (k.submitted ∙ h.submitted)
    (λ a e. k.agent a (h.agent a e)) (h.visits.0 ++ k.visits.0)
    (k.visits.1 ∙ ap (λ v. v ++ k.visits.0) h.visits.1 ∙ append_assoc s.visits h.visits.0 k.visits.0)

later-same : (s t : Task) → t ≡ s → IsLater s t
later-same s t e = subst (λ u. IsLater s u) (sym e) (later-refl s)

pub later-arrived : (clock : ℕ) (place : ℕ → Cell) (task : Task) → IsLater task (arrived_task clock place task)
later-arrived clock place task =
    let added = arrived-adds clock place task in
    subst (λ t. IsLater task t) (sym added.1)
    (later-from task (record task { visits = task.visits ++ replicate added.0 clock }) refl refl refl (λ a e. e) (replicate added.0 clock) refl)

-- each task of the first list stands in the second, and has gone on
abbrev pub AllLater : List Task → List Task → Type 0
AllLater old new = (n : ℕ) (task : Task) → IsTask old n task → (later : Task) × IsTask new n later × IsLater task later

pub all_later-same : (old new : List Task) → new ≡ old → AllLater old new
all_later-same old new e n task is = (task, ap (λ ts. slice_get ts n) e ∙ is, later-refl task)

pub all_later-trans : (a b c : List Task) → AllLater a b → AllLater b c → AllLater a c
all_later-trans a b c h k n task is =
    let first = h n task is in
    let rest = k n first.0 first.1 in
    (rest.0, rest.1, later-trans task first.0 rest.0 first.2 rest.2)

pub all_later-arrived : (clock : ℕ) (place : ℕ → Cell) (tasks : List Task) → AllLater tasks (arrived_tasks clock place tasks)
all_later-arrived clock place tasks n task is =
    (arrived_task clock place task, map-at (arrived_task clock place) tasks n task is, later-arrived clock place task)

pub all_later-assigned : (agent n : ℕ) (task : Task) (tasks : List Task) → IsTask tasks n task → task.agent ≡ None →
    AllLater tasks (set tasks n (record task { agent = Some agent }))
all_later-assigned agent n task tasks there is_open k other is = elim (cases_eq k n) [
  | inl e ↦ (
    record task { agent = Some agent },
    subst (λ i. slice_get (set tasks n (record task { agent = Some agent })) i ≡ Some (record task { agent = Some agent })) (sym e)
        (slice_get-set_same tasks n (record task { agent = Some agent }) (slice_get_within tasks n task there)),
    let same : task ≡ other = same_Some task other (sym there ∙ subst (λ i. slice_get tasks i ≡ Some other) e is) in
        subst (λ t. IsLater t (record task { agent = Some agent })) same
        (later-from task (record task { agent = Some agent }) refl refl refl
        (λ a some. absurd (let clash : None ≡ Some a = sym is_open ∙ some in cc)) [] (sym (append-nil task.visits))),
  )
  | inr ne ↦ (other, slice_get-set_other tasks n k (record task { agent = Some agent }) ne ∙ is, later-refl other)
]

later-moves : (site : Site) (old new : State) → Moves site old new → AllLater old.tasks new.tasks
later-moves site old new m = elim m [
  | stays c p l t z ↦ all_later-same old.tasks new.tasks t
  | adds client names cells room few many stations e ↦
      subst (λ s. AllLater old.tasks s.tasks) (sym e) (λ n task is. (task, slice_get-append old.tasks _ n task is, later-refl task))
  | continues agent n task path due own lawful e ↦ subst (λ s. AllLater old.tasks s.tasks) (sym e) (all_later-arrived _ _ _)
  | takes agent n task path due none next lawful e ↦
      subst (λ s. AllLater old.tasks s.tasks) (sym e)
      (all_later-trans old.tasks (set old.tasks n (record task { agent = Some agent })) _
      (all_later-assigned agent n task old.tasks next.eligible.there next.eligible.is_open)
      (all_later-arrived _ _ _))
  | parks agent path due way lawful e ↦ all_later-same old.tasks new.tasks (ap (λ s. s.tasks) e)
  | ticks fits e ↦ subst (λ s. AllLater old.tasks s.tasks) (sym e) (all_later-arrived _ _ _)
]

pub later-run : (site : Site) (old : State) (entries : List Entry) (new : State) → Run site old entries new → AllLater old.tasks new.tasks
later-run site old [] new run = all_later-same old.tasks new.tasks (ap (λ s. s.tasks) run)
later-run site old (entry ∷ entries) new run =
    all_later-trans old.tasks run.0.tasks new.tasks (later-moves site old run.0 (step-moves site old entry run.0 run.1))
    (later-run site run.0 entries new run.2)
