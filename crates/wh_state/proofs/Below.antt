-- the arrivals of the agents below a number
use Rattle.std.proofs.Common.{◌≡◌, ℕ, ◌+◌, ◌<◌, ◌≤◌, inl, inr, List, ◌++◌, Bool, true, false, cond, length, ap, sym, ◌∙◌, arith, refl, suc, zero}
use Rattle.std.specs.Prelude.{Option, Some, None, slice_get, nat_lt, ◌==◌, ◌&&◌, replicate}
use Rattle.std.proofs.lemmas.Bool.{cases_eq, cases_lt, lt-ltb, le-ltb}
use Rattle.std.proofs.lemmas.Bool.Decides.{nat_tests}
use Rattle.std.proofs.lemmas.List.{drop_all, append-nil}
use Rattle.std.proofs.lemmas.List.Elements.{All-append, All-replicate}
use Rattle.wh_grid.specs.declared.cell.Cell.{Cell}
use Rattle.wh_tasks.specs.declared.task.Task.{Task}
use Rattle.wh_tasks.specs.declared.task.Load.{Load}
use Rattle.wh_tasks.specs.Tasks.{IsTask, visited, stops_left, load_for, phase_of, load_in}
use Rattle.wh_tasks.specs.Arrivals.{stops_here, visited_at, arrived_by, is_picked, is_dropped}
use Rattle.wh_tasks.specs.Changes.{IsInTime}
use Rattle.wh_tasks.specs.Loads.{task_of}
use Rattle.wh_state.specs.Standings.{AreTied}

-- the task after the arrivals of its agent, if that is below a number
abbrev pub below : ℕ → ℕ → (ℕ → Cell) → Option ℕ → Task → Task
below i clock place None task = task
below i clock place (Some agent) task = cond (nat_lt agent i) (visited_at clock (place agent) task) task

abbrev pub arrived_below : ℕ → ℕ → (ℕ → Cell) → Task → Task
arrived_below i clock place task = below i clock place task.agent task

-- with all stops visited nothing changes
pub visited_at-done : (clock : ℕ) (here : Cell) (task : Task) → length task.stops ≤ visited task → visited_at clock here task ≡ task
visited_at-done clock here task done =
    let none : stops_here here (stops_left task) ≡ 0 = ap (stops_here here) (drop_all (visited task) task.stops done) in
    ap (λ (k : ℕ). record task { visits = task.visits ++ replicate k clock }) none ∙ ap (λ (v : List ℕ). record task { visits = v }) (append-nil task.visits)

pub below-none : (clock : ℕ) (place : ℕ → Cell) (task : Task) (agent : Option ℕ) → below 0 clock place agent task ≡ task
below-none clock place task None = refl
below-none clock place task (Some agent) = rw (le-ltb agent 0 (omega arith))

-- the next agent changes only its own tasks, and of these only one with a stop left
pub below-other : (i clock : ℕ) (place : ℕ → Cell) (task : Task) (agent : Option ℕ) → (agent ≡ Some i → length task.stops ≤ visited task) →
    below (i + 1) clock place agent task ≡ below i clock place agent task
below-other i clock place task None done = refl
below-other i clock place task (Some agent) done =
    elim (cases_eq agent i) [
      | inl same ↦
          let stays = visited_at-done clock (place agent) task (done (ap (λ a. Some a) same)) in
          rw stays (cond-same (nat_lt agent (i + 1)) task ∙ sym (cond-same (nat_lt agent i) task))
      | inr apart ↦ elim (cases_lt agent i) [
        | inl less ↦ let less' : agent < i + 1 = omega arith in rw (lt-ltb agent (i + 1) less', lt-ltb agent i less)
        | inr more ↦ let more' : i + 1 ≤ agent = omega arith in rw (le-ltb agent (i + 1) more', le-ltb agent i more)
      ]
    ]
  where
    cond-same : (b : Bool) (t : Task) → cond b t t ≡ t
    cond-same true t = refl
    cond-same false t = refl

-- before its turn a task is as it was, and after it its agent has arrived
pub below-before : (i clock : ℕ) (place : ℕ → Cell) (task : Task) (agent : Option ℕ) → agent ≡ Some i → below i clock place agent task ≡ task
below-before i clock place task None is = refl
below-before i clock place task (Some agent) is = let same : agent ≡ i = cc in let le : i ≤ agent = omega arith in rw (le-ltb agent i le)

pub below-after : (i clock : ℕ) (place : ℕ → Cell) (task : Task) (agent : Option ℕ) → agent ≡ Some i → below (i + 1) clock place agent task ≡ visited_at clock (place i) task
below-after i clock place task None is = cc
below-after i clock place task (Some agent) is =
    let same : agent ≡ i = cc in
    let lt : agent < i + 1 = omega arith in
    rw (lt-ltb agent (i + 1) lt) (ap (λ a. visited_at clock (place a) task) same)

-- with all agents that have stops left below the number, all have arrived
pub below-all : (i clock : ℕ) (place : ℕ → Cell) (task : Task) (agent : Option ℕ) → ((a : ℕ) → agent ≡ Some a → visited task < length task.stops → a < i) →
    below i clock place agent task ≡ arrived_by clock place agent task
below-all i clock place task None less = refl
below-all i clock place task (Some agent) less =
    elim (cases_lt (visited task) (length task.stops)) [
      | inl left ↦ rw (lt-ltb agent i (less agent refl left))
      | inr done ↦ let stays = visited_at-done clock (place agent) task done in rw stays (cond-same (nat_lt agent i) task)
    ]
  where
    cond-same : (b : Bool) (t : Task) → cond b t t ≡ t
    cond-same true t = refl
    cond-same false t = refl

-- nothing is picked up or delivered where nothing changes
pub picked-same : (task : Task) → is_picked task task ≡ false
picked-same task = numbers (visited task)
  where
    numbers : (n : ℕ) → ((n == 0) && nat_lt 0 n) ≡ false
    numbers n = grind (arith, nat_tests)

pub dropped-same : (task : Task) → is_dropped task task ≡ false
dropped-same task = numbers (visited task) (length task.stops)
  where
    numbers : (n m : ℕ) → (nat_lt n m && (n == m)) ≡ false
    numbers n m = grind (arith, nat_tests)

-- arrivals keep the clocks in time
pub in_time-visited_at : (clock : ℕ) (here : Cell) (task : Task) → IsInTime clock task → IsInTime clock (visited_at clock here task)
in_time-visited_at clock here task is = record {
  submitted = is.submitted;
  visits = All-append (λ earlier. earlier ≤ clock) task.visits (replicate (stops_here here (stops_left task)) clock) is.visits
      (All-replicate (λ earlier. earlier ≤ clock) (stops_here here (stops_left task)) clock (omega arith));
}

pub in_time-below : (i clock : ℕ) (place : ℕ → Cell) (task : Task) (agent : Option ℕ) → IsInTime clock task → IsInTime clock (below i clock place agent task)
in_time-below i clock place task None is = is
in_time-below i clock place task (Some agent) is =
    elim (cases_lt agent i) [
      | inl less ↦ rw (lt-ltb agent i less) (in_time-visited_at clock (place agent) task is)
      | inr more ↦ rw (le-ltb agent i more) is
    ]

-- the load on account of a task of which a stop is left names the task
load-named : (n agent seen stops : ℕ) → seen < stops → task_of (load_in (phase_of (Some agent) seen stops) n seen) ≡ Some n
load-named n agent zero stops lt = refl
load-named n agent (suc seen) stops lt = rw (lt-ltb (suc seen) stops lt)

pub task_of-load_for : (n agent : ℕ) (task : Task) → task.agent ≡ Some agent → visited task < length task.stops → task_of (load_for n task) ≡ Some n
task_of-load_for n agent task is left = rw is (load-named n agent (visited task) (length task.stops) left)

-- a load that names a task is of one of which a stop is left
pub load-left : (n m : ℕ) (agent : Option ℕ) (seen stops : ℕ) → 0 < stops → task_of (load_in (phase_of agent seen stops) n seen) ≡ Some m → (n ≡ m) × (seen < stops)
load-left n m None seen stops some is = cc
load-left n m (Some agent) zero stops some is = (let e : n ≡ m = cc in e, omega arith)
load-left n m (Some agent) (suc seen) stops some is =
    elim (cases_lt (suc seen) stops) [
      | inl less ↦ let is' = rw (lt-ltb (suc seen) stops less) at is in (let e : n ≡ m = cc in e, less)
      | inr more ↦ let is' = rw (le-ltb (suc seen) stops more) at is in cc
    ]

-- An agent's tasks but the one that its load names have all their stops visited.
pub done-unless : (loads : List Load) (tasks : List Task) (agent m : ℕ) (load : Load) (task : Task) → AreTied loads tasks → slice_get loads agent ≡ Some load →
    IsTask tasks m task → (task_of load ≡ Some m → ⊥) → task.agent ≡ Some agent → length task.stops ≤ visited task
done-unless loads tasks agent m load task tied has there other is =
    elim (cases_lt (visited task) (length task.stops)) [
      | inl left ↦
          let known = tied.known agent m task there is left in
          let same : load ≡ load_for m task = cc in
          absurd (other (ap task_of same ∙ task_of-load_for m agent task is left))
      | inr done ↦ done
    ]
