-- when an agent that is on its way through the stops of its task is idle
use Rattle.std.proofs.Common.{◌≡◌, ℕ, ◌+◌, ◌<◌, ◌≤◌, ◌∙◌, inl, inr, List, [], ◌∷◌, true, length, drop, map, sym, subst, refl, ap, arith}
use Rattle.std.specs.Prelude.{Some, slice_get, slice_index_or}
use Rattle.std.specs.Option.{option_map}
use Prim.Native.Nat.{zero, suc}
use Rattle.std.proofs.lemmas.Bool.{cases_lt, le-ltb}
use Rattle.std.proofs.lemmas.Option.{slice_get-map, slice_get-get_or}
use Rattle.std.proofs.lemmas.List.{length-drop, length-map, drop_all, get_or-map, get_or_past}
use Rattle.wh_grid.specs.declared.cell.Cell.{Cell}
use Rattle.wh_path.specs.Paths.{at, cell_at, path_of, place_of, advanced}
use Rattle.wh_path.proofs.AtLemmas.{at-within}
use Rattle.wh_points.specs.Points.{Site}
use Rattle.wh_tasks.specs.declared.task.Task.{Task}
use Rattle.wh_tasks.specs.declared.task.Load.{Load}
use Rattle.wh_tasks.specs.Tasks.{IsTask, visited, stops_left, load_for, load_in, phase_of}
use Rattle.wh_tasks.specs.Arrivals.{visited_at, arrived_task, arrived_load, load_of_task}
use Rattle.wh_tasks.specs.Loads.{task_of}
use Rattle.wh_tasks.proofs.Visiting.{arrived-by, left-visited_at}
use Rattle.wh_core.specs.States.{State, load_of, arrived, moved}
use Rattle.wh_core.specs.Steps.{IsIdle, IsIdleIn}
use Rattle.wh_state.specs.Standings.{AreTied}
use Rattle.wh_state.proofs.Below.{task_of-load_for}
use Rattle.wh_state.proofs.Ties.{arrived-named}
use Rattle.wh_state.proofs.Foretelling.{place-next}
use Rattle.wh_book.specs.Waiting.{left_past, cells_through}

-- the agent has this task, of which a stop is left
pub record Serves (s : State) (agent n : ℕ) (task : Task) : Type 0 where
  pub there : IsTask s.tasks n task
  pub own : task.agent ≡ Some agent
  pub left : visited task < length task.stops
  pub load_is : load_of s agent ≡ load_for n task

-- the task that its load names
pub held : (s : State) (agent n : ℕ) → AreTied s.loads s.tasks → task_of (load_of s agent) ≡ Some n → (task : Task) × Serves s agent n task
held s agent n tied named =
    let load = load_of s agent in
    let there : slice_get s.loads agent ≡ Some load = elim (cases_lt agent (length s.loads)) [
      | inl within ↦ slice_get-get_or s.loads agent Load.None within
      | inr past ↦ (let none : load ≡ Load.None = get_or_past s.loads agent Load.None past in let clash : task_of Load.None ≡ Some n = ap task_of (sym none) ∙ named in cc)
    ] in
    let holds = tied.holds agent n load there named in
    (holds.task, record { there = holds.there; own = holds.agent_is; left = holds.left; load_is = holds.load_is })

-- a path by the cells after its first
next-cell : (p : List Cell) (cell : Cell) (cells : List Cell) → drop 1 p ≡ cell ∷ cells → at p 1 ≡ cell
next-cell [] cell cells e = cc
next-cell (first ∷ rest) cell cells e =
    let long : length rest ≡ suc (length cells) = ap length e in
    at-within (first ∷ rest) 1 (omega arith) ∙ ap (λ l. cell_at l 0) e

next-cells : (p : List Cell) (cell : Cell) (cells : List Cell) → drop 1 p ≡ cell ∷ cells → drop 1 (advanced p) ≡ cells
next-cells [] cell cells e = cc
next-cells (only ∷ []) cell cells e = cc
next-cells (first ∷ next ∷ rest) cell cells e = ap (λ l. drop 1 l) e

load-next : (tasks : List Task) (loads : List Load) (agent : ℕ) →
    slice_index_or (map (arrived_load tasks) loads) agent Load.None ≡ arrived_load tasks (slice_index_or loads agent Load.None)
load-next tasks [] agent = refl
load-next tasks (load ∷ loads) zero = refl
load-next tasks (load ∷ loads) (suc agent) = load-next tasks loads agent

-- with all stops visited a task leaves nothing to do
load-done : (n agent seen stops : ℕ) → 1 ≤ stops → stops ≤ seen → load_in (phase_of (Some agent) seen stops) n seen ≡ Load.None
load-done n agent zero stops some done = absurd (omega arith)
load-done n agent (suc seen) stops some done = rw (le-ltb (suc seen) stops done)

module _ (s : State) (agent n : ℕ) (task : Task) (serves : Serves s agent n task) where
  -- the task after the next tick
  abbrev pub later : Task
  later = visited_at (s.clock + 1) (place_of (moved s).paths agent) task

  there-next : IsTask (arrived (moved s)).tasks n later
  there-next =
      let visit = arrived_task (s.clock + 1) (place_of (moved s).paths) in
      slice_get-map visit s.tasks n ∙ ap (option_map visit) serves.there
      ∙ ap (λ t. Some t) (arrived-by (s.clock + 1) (place_of (moved s).paths) task agent serves.own)

  named : task_of (load_of s agent) ≡ Some n
  named = ap task_of serves.load_is ∙ task_of-load_for n agent task serves.own serves.left

  load_is-next : load_of (arrived (moved s)) agent ≡ load_for n later
  load_is-next =
      let tasks = (arrived (moved s)).tasks in
      load-next tasks s.loads agent ∙ arrived-named tasks (load_of s agent) n named ∙ ap (load_of_task n) there-next

  pub serves-next : visited later < length task.stops → Serves (arrived (moved s)) agent n later
  serves-next left = record { there = there-next; own = serves.own; left = left; load_is = load_is-next }

  pub free-next : length task.stops ≤ visited later → load_of (arrived (moved s)) agent ≡ Load.None
  free-next done =
      let some = serves.left in
      load_is-next ∙ ap (λ a. load_in (phase_of a (visited later) (length task.stops)) n (visited later)) serves.own
      ∙ load-done n agent (visited later) (length task.stops) (omega arith) done

pub through-none : (cells : List Cell) → cells_through cells [] ≡ 0
through-none [] = refl
through-none (cell ∷ cells) = refl

-- from where the agent is in the next state, it is idle so many ticks later
abbrev pub IsThrough : Site → ℕ → ℕ → List Cell → Type 0
IsThrough site agent n cells =
    (s : State) (task : Task) → agent < length s.paths → drop 1 (path_of s.paths agent) ≡ cells → Serves s agent n task →
    IsIdleIn site s agent (cells_through cells (stops_left task))

-- it has steps left and a task
busy : (site : Site) (s : State) (agent n : ℕ) (task : Task) (cell : Cell) (cells : List Cell) → drop 1 (path_of s.paths agent) ≡ cell ∷ cells → Serves s agent n task →
    ¬ IsIdle site s agent
busy site s agent n task cell cells ahead serves = λ idle. elim idle [
  | inl rests ↦ (let long = length-drop 1 (path_of s.paths agent) in let e : length (drop 1 (path_of s.paths agent)) ≡ suc (length cells) = ap length ahead in absurd (omega arith))
  | inr free ↦ (let e : task_of Load.None ≡ Some n = ap task_of (sym free.1) ∙ named s agent n task serves in cc)
]

through-step : (site : Site) (agent n : ℕ) (cell : Cell) (cells stops : List Cell) (s : State) (task : Task) → site.homes ≡ true → IsThrough site agent n cells →
    agent < length s.paths → drop 1 (path_of s.paths agent) ≡ cell ∷ cells → Serves s agent n task → stops_left task ≡ stops →
    IsIdleIn site s agent (cells_through (cell ∷ cells) stops)
through-step site agent n cell cells [] s task on rest known ahead serves none =
    let left = serves.left in
    let long = length-drop (visited task) task.stops in
    let e : length (stops_left task) ≡ 0 = ap length none in
    absurd (omega arith)
through-step site agent n cell cells (stop ∷ stops) s task on rest known ahead serves is =
    let next = arrived (moved s) in
    let known' : agent < length next.paths = (let count = length-map s.paths advanced in omega arith) in
    let path : path_of next.paths agent ≡ advanced (path_of s.paths agent) = get_or-map advanced s.paths agent [] [] known in
    let ahead' : drop 1 (path_of next.paths agent) ≡ cells = ap (λ p. drop 1 p) path ∙ next-cells (path_of s.paths agent) cell cells ahead in
    let here : place_of (moved s).paths agent ≡ cell = place-next s.paths agent known ∙ next-cell (path_of s.paths agent) cell cells ahead in
    let after = later s agent n task serves in
    let left_is : stops_left after ≡ left_past cell (stop ∷ stops) =
    left-visited_at (s.clock + 1) (place_of (moved s).paths agent) task ∙ ap (λ c. left_past c (stops_left task)) here ∙ ap (left_past cell) is in (
      busy site s agent n task cell cells ahead serves,
      subst (λ l. IsIdleIn site next agent (cells_through cells l)) left_is
          (elim (cases_lt (visited after) (length task.stops)) [
            | inl left ↦ rest next after known' ahead' (serves-next s agent n task serves left)
            | inr done ↦
                let empty : stops_left after ≡ [] = drop_all (visited after) task.stops done in
                let soon : cells_through cells (stops_left after) ≡ 0 = ap (cells_through cells) empty ∙ through-none cells in
                let idle : IsIdle site next agent = inr (on, free-next s agent n task serves done) in
                subst (λ k. IsIdleIn site next agent k) (sym soon) idle
          ]),
    )

pub through-idle : (cells : List Cell) (site : Site) (agent n : ℕ) → site.homes ≡ true → IsThrough site agent n cells
through-idle [] site agent n on = λ s task known ahead serves. inl (let long = length-drop 1 (path_of s.paths agent) in let e : length (drop 1 (path_of s.paths agent)) ≡ 0 = ap length ahead in omega arith)
through-idle (cell ∷ cells) site agent n on = λ s task known ahead serves.
    through-step site agent n cell cells (stops_left task) s task on (through-idle cells site agent n on) known ahead serves refl
