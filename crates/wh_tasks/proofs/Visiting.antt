-- what the arrivals do to one task
use Rattle.std.proofs.Common.{◌≡◌, ◌≢◌, ℕ, ◌+◌, ◌<◌, ◌≤◌, ◌∙◌, ◌⊎◌, inl, inr, List, [], ◌∷◌, ◌++◌, Bool, true, false, Option, Some, None, length, drop, sym, subst, refl, ap, arith, append-nil, length-append}
use Prim.Native.Nat.{zero, suc}
use Rattle.std.proofs.Math.Seq.{drop-drop}
use Rattle.std.proofs.lemmas.List.{length-replicate, length-drop}
use Rattle.std.specs.Prelude.{replicate}
use Rattle.wh_grid.specs.declared.cell.Cell.{Cell}
use Rattle.wh_grid.specs.Cells.{is_cell}
use Rattle.wh_grid.proofs.Cells.{is_cell-same}
use Rattle.wh_path.specs.Paths.{cell_at}
use Rattle.wh_tasks.specs.declared.task.Task.{Task}
use Rattle.wh_tasks.specs.Tasks.{visited, stops_left}
use Rattle.wh_tasks.specs.Arrivals.{stops_here, visited_at, arrived_by, arrived_task}

pub option_cases : {X : Type 0} (o : Option X) → (o ≡ None) ⊎ ((x : X) × (o ≡ Some x))
option_cases None = inl refl
option_cases (Some x) = inr (x, refl)

pub bool_cases : (b : Bool) → (b ≡ true) ⊎ (b ≡ false)
bool_cases true = inl refl
bool_cases false = inr refl

is_cell-other : (c d : Cell) → is_cell c d ≡ false → c ≢ d
is_cell-other c d e = grind arith

pub stops_here-few : (here : Cell) (stops : List Cell) → stops_here here stops ≤ length stops
stops_here-few here [] = omega arith
stops_here-few here (stop ∷ stops) = elim (bool_cases (is_cell here stop)) [
  | inl e ↦ rw e (let h = stops_here-few here stops in omega arith)
  | inr e ↦ rw e (omega arith)
]

-- the stops that are visited are the cell
pub stops_here-at : (here : Cell) (stops : List Cell) (i : ℕ) → i < stops_here here stops → cell_at stops i ≡ here
stops_here-at here [] i h = absurd (omega arith)
stops_here-at here (stop ∷ stops) zero h = elim (bool_cases (is_cell here stop)) [
  | inl e ↦ sym (is_cell-same here stop e)
  | inr e ↦ (let l : 0 < 0 = rw e at h in absurd (omega arith))
]
stops_here-at here (stop ∷ stops) (suc i) h = elim (bool_cases (is_cell here stop)) [
  | inl e ↦ (let l : suc i < suc (stops_here here stops) = rw e at h in stops_here-at here stops i (omega arith))
  | inr e ↦ (let l : suc i < 0 = rw e at h in absurd (omega arith))
]

-- then the next one is another
pub stops_here-stuck : (here : Cell) (stops : List Cell) → stops_here here (drop (stops_here here stops) stops) ≡ 0
stops_here-stuck here [] = refl
stops_here-stuck here (stop ∷ stops) = elim (bool_cases (is_cell here stop)) [
  | inl e ↦ rw e (stops_here-stuck here stops)
  | inr e ↦ rw (e, e)
]

pub stops_here-next : (here : Cell) (stops : List Cell) → stops_here here stops ≡ 0 → 1 ≤ length stops → cell_at stops 0 ≢ here
stops_here-next here [] none some = absurd (omega arith)
stops_here-next here (stop ∷ stops) none some = elim (bool_cases (is_cell here stop)) [
  | inl e ↦ (let l : suc (stops_here here stops) ≡ 0 = rw e at none in absurd (omega arith))
  | inr e ↦ λ same. is_cell-other here stop e (sym same)
]

pub visited-visited_at : (clock : ℕ) (here : Cell) (task : Task) →
    visited (visited_at clock here task) ≡ visited task + stops_here here (stops_left task)
visited-visited_at clock here task =
    length-append task.visits (replicate (stops_here here (stops_left task)) clock)
    ∙ ap (λ n. visited task + n) (length-replicate (stops_here here (stops_left task)) clock)

pub left-visited_at : (clock : ℕ) (here : Cell) (task : Task) →
    stops_left (visited_at clock here task) ≡ drop (stops_here here (stops_left task)) (stops_left task)
left-visited_at clock here task =
    ap (λ n. drop n task.stops) (visited-visited_at clock here task)
    ∙ sym (drop-drop (stops_here here (stops_left task)) (visited task) task.stops)

-- nothing is left to visit here
pub stuck-visited_at : (clock : ℕ) (here : Cell) (task : Task) → stops_here here (stops_left (visited_at clock here task)) ≡ 0
stuck-visited_at clock here task =
    ap (λ l. stops_here here l) (left-visited_at clock here task) ∙ stops_here-stuck here (stops_left task)

-- with nothing to visit here the task stays
pub visited_at-none : (clock : ℕ) (here : Cell) (task : Task) → stops_here here (stops_left task) ≡ 0 → visited_at clock here task ≡ task
visited_at-none clock here task none =
    ap (λ n. record task { visits = task.visits ++ replicate n clock }) none
    ∙ ap (λ v. record task { visits = v }) (append-nil task.visits)

pub arrived-open : (clock : ℕ) (place : ℕ → Cell) (task : Task) → task.agent ≡ None → arrived_task clock place task ≡ task
arrived-open clock place task e = ap (λ a. arrived_by clock place a task) e

pub arrived-by : (clock : ℕ) (place : ℕ → Cell) (task : Task) (agent : ℕ) → task.agent ≡ Some agent →
    arrived_task clock place task ≡ visited_at clock (place agent) task
arrived-by clock place task agent e = ap (λ a. arrived_by clock place a task) e

-- the arrivals add visits at this clock, and change nothing else of a task
pub arrived-adds : (clock : ℕ) (place : ℕ → Cell) (task : Task) →
    (m : ℕ) × (arrived_task clock place task ≡ record task { visits = task.visits ++ replicate m clock })
arrived-adds clock place task = elim (option_cases task.agent) [
  | inl e ↦ (0, arrived-open clock place task e ∙ sym (ap (λ v. record task { visits = v }) (append-nil task.visits)))
  | inr e ↦ (stops_here (place e.0) (stops_left task), arrived-by clock place task e.0 e.1)
]

pub arrived-agent : (clock : ℕ) (place : ℕ → Cell) (task : Task) → (arrived_task clock place task).agent ≡ task.agent
arrived-agent clock place task = ap (λ (t : Task). t.agent) (arrived-adds clock place task).1

pub arrived-stops : (clock : ℕ) (place : ℕ → Cell) (task : Task) → (arrived_task clock place task).stops ≡ task.stops
arrived-stops clock place task = ap (λ (t : Task). t.stops) (arrived-adds clock place task).1

-- arrivals of a task, applied twice
pub arrived-twice : (clock : ℕ) (place : ℕ → Cell) (task : Task) →
    arrived_task clock place (arrived_task clock place task) ≡ arrived_task clock place task
arrived-twice clock place task = elim (option_cases task.agent) [
  | inl e ↦ ap (λ t. arrived_task clock place t) (arrived-open clock place task e)
  | inr e ↦
      let once = arrived-by clock place task e.0 e.1 in
      ap (λ t. arrived_task clock place t) once
      ∙ arrived-by clock place (visited_at clock (place e.0) task) e.0 e.1
      ∙ visited_at-none clock (place e.0) (visited_at clock (place e.0) task) (stuck-visited_at clock (place e.0) task)
      ∙ sym once
]

-- where each agent with stops left stands at none of them that comes next, the task stays
pub arrived-none : (clock : ℕ) (place : ℕ → Cell) (task : Task) →
    ((agent : ℕ) → task.agent ≡ Some agent → stops_here (place agent) (stops_left task) ≡ 0) → arrived_task clock place task ≡ task
arrived-none clock place task none = elim (option_cases task.agent) [
  | inl e ↦ arrived-open clock place task e
  | inr e ↦ arrived-by clock place task e.0 e.1 ∙ visited_at-none clock (place e.0) task (none e.0 e.1)
]

pub arrived-stuck : (clock : ℕ) (place : ℕ → Cell) (task : Task) (agent : ℕ) → task.agent ≡ Some agent →
    stops_here (place agent) (stops_left (arrived_task clock place task)) ≡ 0
arrived-stuck clock place task agent e =
    ap (λ t. stops_here (place agent) (stops_left t)) (arrived-by clock place task agent e) ∙ stuck-visited_at clock (place agent) task

-- no more stops are visited than there are
pub arrived-few : (clock : ℕ) (place : ℕ → Cell) (task : Task) → visited task ≤ length task.stops →
    visited (arrived_task clock place task) ≤ length (arrived_task clock place task).stops
arrived-few clock place task few = elim (option_cases task.agent) [
  | inl e ↦ subst (λ (t : Task). visited t ≤ length t.stops) (sym (arrived-open clock place task e)) few
  | inr e ↦
      let here = place e.0 in
      let more = visited-visited_at clock here task in
      let within = stops_here-few here (stops_left task) in
      let left = length-drop (visited task) task.stops in
      let h : visited (visited_at clock here task) ≤ length task.stops = omega arith in
      subst (λ (t : Task). visited t ≤ length t.stops) (sym (arrived-by clock place task e.0 e.1)) h
]

-- with all stops visited there is none to visit
pub stops_left-over : (here : Cell) (task : Task) → length task.stops ≤ visited task → stops_here here (stops_left task) ≡ 0
stops_left-over here task over =
    let few = stops_here-few here (stops_left task) in
    let left = length-drop (visited task) task.stops in
    omega arith
