-- the agents that are not due do not arrive
use Rattle.std.proofs.Common.{◌≡◌, ◌≢◌, ℕ, ◌+◌, ◌<◌, ◌≤◌, inl, inr, List, [], ◌∷◌, length, get_or, ap, sym, ◌∙◌, arith, refl, subst, suc, zero}
use Rattle.std.specs.Prelude.{Option, Some, None, All, slice_get, false}
use Rattle.std.proofs.lemmas.Bool.{cases_lt, cases_Bool, lt-ltb, le-ltb}
use Rattle.std.proofs.lemmas.Option.{slice_get_within, slice_get-get_or, same_Some}
use Rattle.std.proofs.lemmas.List.Elements.{All-get_or}
use Rattle.std.proofs.lemmas.List.Folds.{map_fixed}
use Rattle.wh_grid.specs.declared.cell.Cell.{Cell}
use Rattle.wh_grid.specs.Cells.{is_cell}
use Rattle.wh_grid.proofs.Cells.{is_cell-same}
use Rattle.wh_path.specs.Paths.{at, cell_at, path_of}
use Rattle.wh_tasks.specs.declared.task.Task.{Task}
use Rattle.wh_tasks.specs.declared.task.Load.{Load}
use Rattle.wh_tasks.specs.declared.arrivals.Arrived.{Arrived}
use Rattle.wh_tasks.specs.Tasks.{IsTask, visited, stops_left, load_for}
use Rattle.wh_tasks.specs.Arrivals.{stops_here, visited_at, arrived_task, arrived_tasks, arrived_load, load_of_task, is_picked, is_dropped, picked, dropped}
use Rattle.wh_tasks.specs.Changes.{changed_at}
use Rattle.wh_tasks.specs.Loads.{task_of}
use Rattle.wh_tasks.proofs.Arriving.{here-stops}
use Rattle.wh_tasks.proofs.Edits.{length-changed_at}
use Rattle.wh_tasks.proofs.Visiting.{visited_at-none, arrived-none, stops_left-over}
use Rattle.wh_state.specs.Standings.{AreTied, IsLoadOf}
use Rattle.wh_state.specs.Arriving.{visited_by, ArrivesBy, ForetellsBy}
use Rattle.wh_state.specs.Dues.{AreDue}
use Rattle.wh_state.proofs.Pointwise.{count-agree, count-none}
use Rattle.wh_state.proofs.Below.{arrived_below, below, below-before, done-unless, picked-same, dropped-same}
use Rattle.wh_state.proofs.Ties.{arrived-named, mapped-from}
use Rattle.wh_state.proofs.Steps.{IsArriving, HasArrived, next-holds}

-- while the others arrive the next agent's load is still what its tasks leave it to do
pub next-load-of : (clock : ℕ) (place : ℕ → Cell) (loads0 : List Load) (tasks0 : List Task) (i : ℕ) (loads : List Load) (tasks : List Task) (first last : ℕ) (load : Load) →
    AreTied loads0 tasks0 → slice_get loads0 i ≡ Some load → IsArriving clock place loads0 tasks0 i loads tasks first last → IsLoadOf tasks i load
next-load-of clock place loads0 tasks0 i loads tasks first last load tied has is = record {
  holds = λ n names. next-holds clock place loads0 tasks0 i loads tasks first last n load tied has names is;
  done = λ n task there other own.
      let from = mapped-from (arrived_below i clock place) tasks0 n task (rw is.tasks_are at there) in
      let old = from.from in
      let own' : old.agent ≡ Some i = sym (keeps old old.agent) ∙ ap (λ (t : Task). t.agent) (sym from.is) ∙ own in
      let same : task ≡ old = from.is ∙ below-before i clock place old old.agent own' in
      subst (λ (t : Task). length t.stops ≤ visited t) (sym same) (done-unless loads0 tasks0 i n load old tied has from.there other own');
}
  where
    keeps : (task : Task) (agent : Option ℕ) → (below i clock place agent task).agent ≡ task.agent
    keeps task None = refl
    keeps task (Some a) = elim (cases_lt a i) [
      | inl less ↦ rw (lt-ltb a i less) refl
      | inr more ↦ rw (le-ltb a i more) refl
    ]

-- an agent that stands elsewhere visits no stop
pub elsewhere : (here : Cell) (task : Task) → (visited task < length task.stops → here ≢ cell_at task.stops (visited task)) → stops_here here (stops_left task) ≡ 0
elsewhere here task away =
    elim (cases_lt (visited task) (length task.stops)) [
      | inl left ↦ elim (cases_Bool (is_cell here (cell_at task.stops (visited task)))) [
        | inl same ↦ absurd (away left (is_cell-same here (cell_at task.stops (visited task)) same))
        | inr other ↦ here-stops here task.stops (visited task) (record { x = 0; y = 0 }) left other
      ]
      | inr done ↦ stops_left-over here task done
    ]

-- where each agent stands elsewhere, nothing changes
abbrev pub NobodyStands : (ℕ → Cell) → List Task → Type 0
NobodyStands place tasks = (n agent : ℕ) (task : Task) → IsTask tasks n task → task.agent ≡ Some agent → visited task < length task.stops → place agent ≢ cell_at task.stops (visited task)

stays : (clock : ℕ) (place : ℕ → Cell) (tasks : List Task) → NobodyStands place tasks → (n : ℕ) (task : Task) → IsTask tasks n task → arrived_task clock place task ≡ task
stays clock place tasks nobody n task there = arrived-none clock place task (λ agent is. elsewhere (place agent) task (λ left. nobody n agent task there is left))

tasks-stay : (clock : ℕ) (place : ℕ → Cell) (tasks : List Task) → NobodyStands place tasks → tasks ≡ arrived_tasks clock place tasks
tasks-stay clock place tasks nobody =
    sym (map_fixed (arrived_task clock place) tasks
    (λ k d lt. stays clock place tasks nobody k (get_or tasks k d) (slice_get-get_or tasks k d lt)))

pub picked-none : (clock : ℕ) (place : ℕ → Cell) (tasks : List Task) → NobodyStands place tasks → 0 ≡ picked clock place tasks
picked-none clock place tasks nobody =
    sym (count-agree (λ t. is_picked t t) (λ t. is_picked t (arrived_task clock place t)) tasks (λ n task there. ap (is_picked task) (stays clock place tasks nobody n task there))
    ∙ count-none (λ t. is_picked t t) tasks picked-same)

pub dropped-none : (clock : ℕ) (place : ℕ → Cell) (tasks : List Task) → NobodyStands place tasks → 0 ≡ dropped clock place tasks
dropped-none clock place tasks nobody =
    sym (count-agree (λ t. is_dropped t t) (λ t. is_dropped t (arrived_task clock place t)) tasks (λ n task there. ap (is_dropped task) (stays clock place tasks nobody n task there))
    ∙ count-none (λ t. is_dropped t t) tasks dropped-same)

pub nobody-arrives : (clock : ℕ) (place : ℕ → Cell) (loads : List Load) (tasks : List Task) → AreTied loads tasks → NobodyStands place tasks →
    HasArrived clock place loads tasks loads tasks 0 0
nobody-arrives clock place loads tasks tied nobody = record {
  tasks_are = tasks-stay clock place tasks nobody;
  loads_are = sym (map_fixed (arrived_load tasks) loads
      (λ k d lt. let load = get_or loads k d in fixed k load (task_of load) (slice_get-get_or loads k d lt) refl));
  picked_is = picked-none clock place tasks nobody;
  dropped_is = dropped-none clock place tasks nobody;
}
  where
    unloaded : (load : Load) → task_of load ≡ None → arrived_load tasks load ≡ load
    unloaded Load.None e = refl
    unloaded (Load.Fetching n) e = cc
    unloaded (Load.Carrying n seen) e = cc

    fixed : (agent : ℕ) (load : Load) (named : Option ℕ) → slice_get loads agent ≡ Some load → task_of load ≡ named → arrived_load tasks load ≡ load
    fixed agent load None has names = unloaded load names
    fixed agent load (Some n) has names =
        let holds = tied.holds agent n load has names in
        arrived-named tasks load n names ∙ ap (load_of_task n) holds.there ∙ sym holds.load_is

-- before all clocks nobody stands at its next stop
pub nobody-due : (clock later moment : ℕ) (paths : List (List Cell)) (place : ℕ → Cell) (loads : List Load) (tasks : List Task) (dues : List ℕ) → length loads ≡ length paths →
    ((agent : ℕ) → agent < length paths → place agent ≡ at (path_of paths agent) later) → AreTied loads tasks → AreDue clock paths tasks dues →
    clock + later ≡ moment → All (λ due. moment < due) dues → NobodyStands place tasks
nobody-due clock later moment paths place loads tasks dues each is tied due then all n agent task there own left =
    let within : agent < length loads = slice_get_within loads agent (load_for n task) (tied.known agent n task there own left) in
    let on : agent < length paths = omega arith in
    let on' : agent < length dues = (let e = due.each in omega arith) in
    rw (is agent on) (due.away agent n task later there own left (let late = All-get_or (λ d. moment < d) dues agent 0 on' all in omega arith))

-- what is told of an agent that is not due
fixed-at : {X : Type 0} (xs : List X) (n : ℕ) (f : X → X) → ((x : X) → slice_get xs n ≡ Some x → f x ≡ x) → xs ≡ changed_at n f xs
fixed-at [] n f same = refl
fixed-at (x ∷ xs) zero f same = ap (λ y. y ∷ xs) (sym (same x refl))
fixed-at (x ∷ xs) (suc n) f same = ap (λ ys. x ∷ ys) (fixed-at xs n f same)

-- an agent that stands elsewhere changes nothing
module _ (clock : ℕ) (here : Cell) (tasks : List Task) (agent : ℕ) (load : Load) (own : IsLoadOf tasks agent load)
    (away : (n : ℕ) (task : Task) → IsTask tasks n task → task.agent ≡ Some agent → visited task < length task.stops → here ≢ cell_at task.stops (visited task)) where
  same : (n : ℕ) → task_of load ≡ Some n → (task : Task) → IsTask tasks n task → visited_at clock here task ≡ task
  same n names task there =
      let holds = own.holds n names in
      let one : holds.task ≡ task = same_Some holds.task task (sym holds.there ∙ there) in
      let is : task.agent ≡ Some agent = ap (λ (t : Task). t.agent) (sym one) ∙ holds.agent_is in
      visited_at-none clock here task (elsewhere here task (λ left. away n task there is left))

  pub absent-tasks : (named : Option ℕ) → task_of load ≡ named → tasks ≡ visited_by clock here named tasks
  absent-tasks None names = refl
  absent-tasks (Some n) names = fixed-at tasks n (visited_at clock here) (same n names)

  pub absent-arrives : (named : Option ℕ) → task_of load ≡ named → ArrivesBy clock here tasks named (record { load = load; picked = false; dropped = false })
  absent-arrives None names = ap (λ (l : Load). let a : Arrived = record { load = l; picked = false; dropped = false } in a) (none load names)
    where
      none : (load : Load) → task_of load ≡ None → load ≡ Load.None
      none Load.None e = refl
      none (Load.Fetching n) e = cc
      none (Load.Carrying n seen) e = cc
  absent-arrives (Some n) names =
      let holds = own.holds n names in
      let stands = same n names holds.task holds.there in (
        holds.task,
        holds.there,
        record {
          load = holds.load_is ∙ ap (load_for n) (sym stands);
          picked = sym (ap (is_picked holds.task) stands ∙ picked-same holds.task);
          dropped = sym (ap (is_dropped holds.task) stands ∙ dropped-same holds.task);
        },
      )

  pub absent-foretells : (named : Option ℕ) → task_of load ≡ named → ForetellsBy clock here tasks named (record { picked = false; dropped = false })
  absent-foretells None names = refl
  absent-foretells (Some n) names =
      let holds = own.holds n names in
      let stands = same n names holds.task holds.there in (
        holds.task,
        holds.there,
        record {
          picked = sym (ap (is_picked holds.task) stands ∙ picked-same holds.task);
          dropped = sym (ap (is_dropped holds.task) stands ∙ dropped-same holds.task);
        },
      )

-- arrivals add no task
pub length-visited : (clock : ℕ) (here : Cell) (named : Option ℕ) (tasks : List Task) → length (visited_by clock here named tasks) ≡ length tasks
length-visited clock here None tasks = refl
length-visited clock here (Some n) tasks = length-changed_at tasks n (visited_at clock here)
