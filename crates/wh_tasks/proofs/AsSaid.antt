-- phases and arrivals in words
use Rattle.std.proofs.Common.{◌≡◌, ℕ, ◌+◌, ◌-◌, ◌∙◌, Some, None, drop, sym, subst, refl, ap, arith}
use Rattle.std.proofs.Math.Seq.{get_or-drop}
use Rattle.std.proofs.lemmas.List.{length-drop}
use Rattle.wh_grid.specs.declared.cell.Cell.{Cell}
use Rattle.wh_path.specs.Paths.{cell_at}
use Rattle.wh_tasks.specs.declared.task.Task.{Task}
use Rattle.wh_tasks.specs.declared.task.Phase.{Phase}
use Rattle.wh_tasks.specs.Tasks.{visited, stops_left}
use Rattle.wh_tasks.specs.Arrivals.{stops_here, visited_at, arrived_task}
use Rattle.wh_tasks.specs.Laws.{PhasesAre, VisitsAllHere}
use Rattle.wh_tasks.proofs.Visiting.{stops_here-few, stops_here-at, stops_here-stuck, stops_here-next, arrived-open, arrived-by}
use Rattle.wh_tasks.proofs.Loads.{is_open, is_assigned, is_carried, is_done, comes_to}

pub phases_said : (task : Task) → PhasesAre task
phases_said task = elim (comes_to 0 task) [
  | is_open none p l ↦ record {
    is_open = (λ _. none, λ _. p);
    is_assigned = (λ e. absurd (let clash : Phase.Open ≡ Phase.Assigned = sym p ∙ e in cc), λ h. absurd (let clash : None ≡ Some h.0.0 = sym none ∙ h.0.1 in cc));
    is_carried = (λ e. absurd (let clash : Phase.Open ≡ Phase.Carried = sym p ∙ e in cc), λ h. absurd (let clash : None ≡ Some h.0.0 = sym none ∙ h.0.1 in cc));
    is_done = (λ e. absurd (let clash : Phase.Open ≡ Phase.Done = sym p ∙ e in cc), λ h. absurd (let clash : None ≡ Some h.0.0 = sym none ∙ h.0.1 in cc));
  }
  | is_assigned a some zero p l ↦ record {
    is_open = (λ e. absurd (let clash : Phase.Assigned ≡ Phase.Open = sym p ∙ e in cc), λ n. absurd (let clash : None ≡ Some a = sym n ∙ some in cc));
    is_assigned = (λ _. ((a, some), zero), λ _. p);
    is_carried = (λ e. absurd (let clash : Phase.Assigned ≡ Phase.Carried = sym p ∙ e in cc), λ h. absurd (let x = h.1 in omega arith));
    is_done = (λ e. absurd (let clash : Phase.Assigned ≡ Phase.Done = sym p ∙ e in cc), λ h. absurd (let x = h.1 in omega arith));
  }
  | is_carried a some low high p l ↦ record {
    is_open = (λ e. absurd (let clash : Phase.Carried ≡ Phase.Open = sym p ∙ e in cc), λ n. absurd (let clash : None ≡ Some a = sym n ∙ some in cc));
    is_assigned = (λ e. absurd (let clash : Phase.Carried ≡ Phase.Assigned = sym p ∙ e in cc), λ h. absurd (let x = h.1 in omega arith));
    is_carried = (λ _. ((a, some), low, high), λ _. p);
    is_done = (λ e. absurd (let clash : Phase.Carried ≡ Phase.Done = sym p ∙ e in cc), λ h. absurd (let x = h.2 in omega arith));
  }
  | is_done a some low high p l ↦ record {
    is_open = (λ e. absurd (let clash : Phase.Done ≡ Phase.Open = sym p ∙ e in cc), λ n. absurd (let clash : None ≡ Some a = sym n ∙ some in cc));
    is_assigned = (λ e. absurd (let clash : Phase.Done ≡ Phase.Assigned = sym p ∙ e in cc), λ h. absurd (let x = h.1 in omega arith));
    is_carried = (λ e. absurd (let clash : Phase.Done ≡ Phase.Carried = sym p ∙ e in cc), λ h. absurd (let x = h.2 in omega arith));
    is_done = (λ _. ((a, some), low, high), λ _. p);
  }
]

visits_all : (clock : ℕ) (here : Cell) (task : Task) → VisitsAllHere clock here task (visited_at clock here task)
visits_all clock here task =
    let left = stops_left task in
    let m = stops_here here left in
    let size = length-drop (visited task) task.stops in
    let few = stops_here-few here left in
    record {
      client = refl;
      stops = refl;
      submitted = refl;
      agent = refl;
      count = m;
      visits = refl;
      within = λ h. omega arith;
      each_here = λ i low high.
          let e : visited task + (i - visited task) ≡ i = omega arith in
          sym (ap (λ k. cell_at task.stops k) e) ∙ sym (get_or-drop (visited task) task.stops (i - visited task) (record { x = 0; y = 0 }))
          ∙ stops_here-at here left (i - visited task) (omega arith);
      next_elsewhere = λ h same.
          let rest = length-drop m left in
          let e : m + 0 ≡ m = omega arith in
          stops_here-next here (drop m left) (stops_here-stuck here left) (omega arith)
          (get_or-drop m left 0 (record { x = 0; y = 0 }) ∙ ap (λ k. cell_at left k) e
          ∙ get_or-drop (visited task) task.stops m (record { x = 0; y = 0 }) ∙ same);
    }

pub arrivals_all : (clock : ℕ) (place : ℕ → Cell) (task : Task) →
    (task.agent ≡ None → arrived_task clock place task ≡ task)
    × ((agent : ℕ) → task.agent ≡ Some agent → VisitsAllHere clock (place agent) task (arrived_task clock place task))
arrivals_all clock place task = (
  λ none. arrived-open clock place task none,
  λ agent some. subst (λ t. VisitsAllHere clock (place agent) task t) (sym (arrived-by clock place task agent some)) (visits_all clock (place agent) task),
)
