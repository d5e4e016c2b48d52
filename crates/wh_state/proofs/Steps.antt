-- the loop over the agents
use Rattle.std.proofs.Common.{◌≡◌, ◌≢◌, ℕ, ◌+◌, ◌-◌, ◌<◌, ◌≤◌, List, ◌++◌, Bool, true, false, length, get_or, map, take, drop, ap, sym, ◌∙◌, arith, refl, subst}
use Rattle.std.specs.Prelude.{Option, Some, None, All, slice_get, count_by}
use Rattle.std.specs.Option.{option_map}
use mir.Val.{bool_byte}
use Rattle.std.proofs.Math.ListN.{set}
use Rattle.std.proofs.lemmas.Option.{slice_get_within, slice_get-get_or, slice_get-map, same_Some}
use Rattle.std.proofs.lemmas.List.{length-map, length-take-le, get_or-append_right, get_or-drop, take_all, drop_all, append-nil}
use Rattle.std.proofs.lemmas.List.Edits.{map_over_more}
use Rattle.std.proofs.lemmas.List.Elements.{All-map, All-weaker}
use Rattle.std.proofs.lemmas.List.Folds.{map_fixed}
use Rattle.wh_grid.specs.declared.cell.Cell.{Cell}
use Rattle.wh_tasks.specs.declared.task.Task.{Task}
use Rattle.wh_tasks.specs.declared.task.Load.{Load}
use Rattle.wh_tasks.specs.declared.arrivals.Arrived.{Arrived}
use Rattle.wh_tasks.specs.Tasks.{IsTask, visited, load_for}
use Rattle.wh_tasks.specs.Arrivals.{visited_at, arrived_by, arrived_task, arrived_tasks, arrived_load, load_of_task, is_picked, is_dropped, picked, dropped}
use Rattle.wh_tasks.specs.Changes.{changed_at, IsInTime}
use Rattle.wh_tasks.specs.Loads.{task_of, Holds}
use Rattle.wh_tasks.specs.Visiting.{Arrives}
use Rattle.wh_state.specs.Standings.{AreTied}
use Rattle.wh_state.specs.Arriving.{visited_by, ArrivesBy}
use Rattle.wh_state.proofs.Pointwise.{map-agree, map-step, count-agree, count-step, count-none, bit}
use Rattle.wh_state.proofs.Below.{arrived_below, below-none, below-other, below-before, below-after, below-all, picked-same, dropped-same, in_time-below, done-unless}

-- how far the loop has come: the agents below a number have arrived
pub record IsArriving (clock : ℕ) (place : ℕ → Cell) (loads0 : List Load) (tasks0 : List Task) (i : ℕ) (loads : List Load) (tasks : List Task) (first last : ℕ) : Type 0 where
  pub tasks_are : tasks ≡ map (arrived_below i clock place) tasks0
  pub loads_are : loads ≡ map (arrived_load (arrived_tasks clock place tasks0)) (take i loads0) ++ drop i loads0
  pub picked_is : first ≡ count_by (λ task. is_picked task (arrived_below i clock place task)) tasks0
  pub dropped_is : last ≡ count_by (λ task. is_dropped task (arrived_below i clock place task)) tasks0
  pub picked_few : first ≤ i
  pub dropped_few : last ≤ i

-- a test of a task and itself fails
pub record FailsOnSame (test : Task → Task → Bool) : Type 0 where
  pub fails : (task : Task) → test task task ≡ false

pub arriving-start : (clock : ℕ) (place : ℕ → Cell) (loads : List Load) (tasks : List Task) → IsArriving clock place loads tasks 0 loads tasks 0 0
arriving-start clock place loads tasks = record {
  tasks_are = sym (map_fixed (arrived_below 0 clock place) tasks (λ k d lt. below-none clock place (get_or tasks k d) (get_or tasks k d).agent));
  loads_are = refl;
  picked_is = sym (count-none _ tasks (λ task. ap (is_picked task) (below-none clock place task task.agent) ∙ picked-same task));
  dropped_is = sym (count-none _ tasks (λ task. ap (is_dropped task) (below-none clock place task task.agent) ∙ dropped-same task));
  picked_few = omega arith;
  dropped_few = omega arith;
}

-- the load of the next agent is still as it was
pub next-load : (clock : ℕ) (place : ℕ → Cell) (loads0 : List Load) (tasks0 : List Task) (i : ℕ) (loads : List Load) (tasks : List Task) (first last : ℕ) (load : Load) →
    i < length loads0 → load ≡ get_or loads i load → IsArriving clock place loads0 tasks0 i loads tasks first last → slice_get loads0 i ≡ Some load
next-load clock place loads0 tasks0 i loads tasks first last load lt read is =
    let f = arrived_load (arrived_tasks clock place tasks0) in
    let long : length (map f (take i loads0)) ≡ i = length-map (take i loads0) f ∙ length-take-le i loads0 (let le : i ≤ length loads0 = omega arith in le) in
    let e = rw is.loads_are at read in
    let e' = e ∙ get_or-append_right (map f (take i loads0)) (drop i loads0) i i load long (omega arith) ∙ get_or-drop i loads0 (i - i) load in
    let e'' : get_or loads0 (i + (i - i)) load ≡ get_or loads0 i load = ap (λ n. get_or loads0 n load) (let same : i + (i - i) ≡ i = omega arith in same) in
    slice_get-get_or loads0 i load lt ∙ ap (λ l. Some l) (sym (e' ∙ e''))

-- the task that the next agent's load names is still as it was
pub next-holds : (clock : ℕ) (place : ℕ → Cell) (loads0 : List Load) (tasks0 : List Task) (i : ℕ) (loads : List Load) (tasks : List Task) (first last n : ℕ) (load : Load) →
    AreTied loads0 tasks0 → slice_get loads0 i ≡ Some load → task_of load ≡ Some n → IsArriving clock place loads0 tasks0 i loads tasks first last → Holds tasks i n load
next-holds clock place loads0 tasks0 i loads tasks first last n load tied has names is =
    let holds = tied.holds i n load has names in
    let stays = below-before i clock place holds.task holds.task.agent holds.agent_is in
    record {
      task = holds.task;
      there = rw is.tasks_are (slice_get-map (arrived_below i clock place) tasks0 n ∙ ap (λ o. option_map (arrived_below i clock place) o) holds.there ∙ ap (λ t. Some t) stays);
      agent_is = holds.agent_is;
      left = holds.left;
      load_is = holds.load_is;
    }

pub next-in_time : (clock : ℕ) (place : ℕ → Cell) (tasks0 tasks : List Task) (i : ℕ) → tasks ≡ map (arrived_below i clock place) tasks0 →
    All (IsInTime clock) tasks0 → All (IsInTime clock) tasks
next-in_time clock place tasks0 tasks i are all =
    rw are (All-map (IsInTime clock) (arrived_below i clock place) tasks0
    (All-weaker (IsInTime clock) (λ task. IsInTime clock (arrived_below i clock place task)) (λ task is. in_time-below i clock place task task.agent is) tasks0 all))

-- the counts after an agent without a task
pub count-kept : (test : Task → Task → Bool) (clock : ℕ) (place : ℕ → Cell) (tasks : List Task) (i : ℕ) →
    ((m : ℕ) (task : Task) → IsTask tasks m task → task.agent ≡ Some i → length task.stops ≤ visited task) →
    count_by (λ task. test task (arrived_below (i + 1) clock place task)) tasks ≡ count_by (λ task. test task (arrived_below i clock place task)) tasks
count-kept test clock place tasks i done =
    count-agree _ _ tasks (λ m task there. ap (test task) (below-other i clock place task task.agent (done m task there)))

-- the counts after an agent with a task
pub count-more : (test : Task → Task → Bool) (clock : ℕ) (place : ℕ → Cell) (tasks : List Task) (i n : ℕ) (task : Task) → FailsOnSame test →
    IsTask tasks n task → task.agent ≡ Some i →
    ((m : ℕ) (other : Task) → IsTask tasks m other → m ≢ n → other.agent ≡ Some i → length other.stops ≤ visited other) →
    count_by (λ t. test t (arrived_below (i + 1) clock place t)) tasks
    ≡ count_by (λ t. test t (arrived_below i clock place t)) tasks + bit (test task (visited_at clock (place i) task))
count-more test clock place tasks i n task fails there is done =
    let e = count-step (λ t. test t (arrived_below i clock place t)) (λ t. test t (arrived_below (i + 1) clock place t)) tasks n task there
    (λ m other at ne. ap (test other) (below-other i clock place other other.agent (done m other at ne)))
    (ap (test task) (below-before i clock place task task.agent is) ∙ fails.fails task) in
    e ∙ ap (λ t. count_by (λ u. test u (arrived_below i clock place u)) tasks + bit (test task t)) (below-after i clock place task task.agent is)

pub bit-few : (b : Bool) → bit b ≤ 1
bit-few true = omega arith
bit-few false = omega arith

-- one agent more has arrived
pub arriving-step : (clock : ℕ) (place : ℕ → Cell) (loads0 : List Load) (tasks0 : List Task) (i : ℕ) (loads : List Load) (tasks new : List Task) (first last : ℕ)
    (load : Load) (named : Option ℕ) (arrived : Arrived) → AreTied loads0 tasks0 → i < length loads0 → load ≡ get_or loads i load → task_of load ≡ named →
    IsArriving clock place loads0 tasks0 i loads tasks first last → new ≡ visited_by clock (place i) named tasks → ArrivesBy clock (place i) tasks named arrived →
    IsArriving clock place loads0 tasks0 (i + 1) (set loads i arrived.load) new (first + bit arrived.picked) (last + bit arrived.dropped)
arriving-step clock place loads0 tasks0 i loads tasks new first last load None arrived tied lt read names is new_is arrives =
    let has = next-load clock place loads0 tasks0 i loads tasks first last load lt read is in
    let done : (m : ℕ) (task : Task) → IsTask tasks0 m task → task.agent ≡ Some i → length task.stops ≤ visited task =
    λ m task there. done-unless loads0 tasks0 i m load task tied has there (λ e. (let no : None ≡ Some m = sym names ∙ e in cc)) in
    let final = arrived_tasks clock place tasks0 in
    let kept : arrived.load ≡ arrived_load final load = ap (λ (a : Arrived). a.load) arrives ∙ sym (unloaded final load names) in
    record {
      tasks_are = new_is ∙ is.tasks_are ∙ sym (map-agree (arrived_below i clock place) (arrived_below (i + 1) clock place) tasks0
          (λ m task there. below-other i clock place task task.agent (done m task there)));
      loads_are = rw kept (map_over_more (arrived_load final) loads0 loads i load lt is.loads_are read);
      picked_is =
          let none : bit arrived.picked ≡ 0 = ap (λ (a : Arrived). bit a.picked) arrives in
          let a = is.picked_is in
          let b = count-kept is_picked clock place tasks0 i done in
          omega arith;
      dropped_is =
          let none : bit arrived.dropped ≡ 0 = ap (λ (a : Arrived). bit a.dropped) arrives in
          let a = is.dropped_is in
          let b = count-kept is_dropped clock place tasks0 i done in
          omega arith;
      picked_few = let a = is.picked_few in let b = bit-few arrived.picked in omega arith;
      dropped_few = let a = is.dropped_few in let b = bit-few arrived.dropped in omega arith;
    }
  where
    unloaded : (final : List Task) (load : Load) → task_of load ≡ None → arrived_load final load ≡ Load.None
    unloaded final Load.None e = refl
    unloaded final (Load.Fetching n) e = cc
    unloaded final (Load.Carrying n seen) e = cc
arriving-step clock place loads0 tasks0 i loads tasks new first last load (Some n) arrived tied lt read names is new_is arrives =
    let has = next-load clock place loads0 tasks0 i loads tasks first last load lt read is in
    let holds = tied.holds i n load has names in
    let task = holds.task in
    let now = next-holds clock place loads0 tasks0 i loads tasks first last n load tied has names is in
    let f = arrived_below i clock place in
    let g = arrived_below (i + 1) clock place in
    let v = visited_at clock (place i) in
    let final = arrived_tasks clock place tasks0 in
    let here : slice_get tasks n ≡ Some task = ap (λ ts. slice_get ts n) is.tasks_are ∙ slice_get-map f tasks0 n ∙ ap (option_map f) holds.there
    ∙ ap (λ t. Some t) (below-before i clock place task task.agent holds.agent_is) in
    let one : arrives.0 ≡ task = same_Some arrives.0 task (sym arrives.1 ∙ here) in
    let told : Arrives n task (v task) arrived = subst (λ t. Arrives n t (v t) arrived) one arrives.2 in
    let done : (m : ℕ) (other : Task) → IsTask tasks0 m other → m ≢ n → other.agent ≡ Some i → length other.stops ≤ visited other =
    λ m other there ne. done-unless loads0 tasks0 i m load other tied has there (λ e. ne (let same : n ≡ m = same_Some n m (sym names ∙ e) in sym same)) in
    let end : slice_get final n ≡ Some (v task) = slice_get-map (arrived_task clock place) tasks0 n ∙ ap (option_map (arrived_task clock place)) holds.there
    ∙ ap (λ a. Some (arrived_by clock place a task)) holds.agent_is in
    let loaded : arrived_load final load ≡ load_of_task n (slice_get final n) = unnamed final load n names in
    let kept : arrived.load ≡ arrived_load final load = told.load ∙ sym (loaded ∙ ap (load_of_task n) end) in
    record {
      tasks_are = new_is ∙ ap (changed_at n v) is.tasks_are ∙ map-step f g v tasks0 n
          (λ m other there ne. below-other i clock place other other.agent (done m other there ne))
          (λ other there.
          let same : other ≡ task = same_Some other task (sym there ∙ holds.there) in
          let is' : other.agent ≡ Some i = ap (λ (t : Task). t.agent) same ∙ holds.agent_is in
          below-after i clock place other other.agent is' ∙ ap v (sym (below-before i clock place other other.agent is')));
      loads_are = rw kept (map_over_more (arrived_load final) loads0 loads i load lt is.loads_are read);
      picked_is =
          let b = count-more is_picked clock place tasks0 i n task (record { fails = picked-same }) holds.there holds.agent_is done in
          let told' : bit arrived.picked ≡ bit (is_picked task (v task)) = ap bit told.picked in
          let a = is.picked_is in
          omega arith;
      dropped_is =
          let b = count-more is_dropped clock place tasks0 i n task (record { fails = dropped-same }) holds.there holds.agent_is done in
          let told' : bit arrived.dropped ≡ bit (is_dropped task (v task)) = ap bit told.dropped in
          let a = is.dropped_is in
          omega arith;
      picked_few = let a = is.picked_few in let b = bit-few arrived.picked in omega arith;
      dropped_few = let a = is.dropped_few in let b = bit-few arrived.dropped in omega arith;
    }
  where
    unnamed : (final : List Task) (load : Load) (n : ℕ) → task_of load ≡ Some n → arrived_load final load ≡ load_of_task n (slice_get final n)
    unnamed final Load.None n e = cc
    unnamed final (Load.Fetching m) n e = let same : m ≡ n = cc in ap (λ k. load_of_task k (slice_get final k)) same
    unnamed final (Load.Carrying m seen) n e = let same : m ≡ n = cc in ap (λ k. load_of_task k (slice_get final k)) same

-- all agents have arrived
pub record HasArrived (clock : ℕ) (place : ℕ → Cell) (loads0 : List Load) (tasks0 : List Task) (loads : List Load) (tasks : List Task) (first last : ℕ) : Type 0 where
  pub tasks_are : tasks ≡ arrived_tasks clock place tasks0
  pub loads_are : loads ≡ map (arrived_load tasks) loads0
  pub picked_is : first ≡ picked clock place tasks0
  pub dropped_is : last ≡ dropped clock place tasks0

pub arriving-end : (clock : ℕ) (place : ℕ → Cell) (loads0 : List Load) (tasks0 : List Task) (i : ℕ) (loads : List Load) (tasks : List Task) (first last : ℕ) →
    AreTied loads0 tasks0 → length loads0 ≤ i → IsArriving clock place loads0 tasks0 i loads tasks first last → HasArrived clock place loads0 tasks0 loads tasks first last
arriving-end clock place loads0 tasks0 i loads tasks first last tied all is =
    let each : (m : ℕ) (task : Task) → IsTask tasks0 m task → arrived_below i clock place task ≡ arrived_task clock place task =
    λ m task there. below-all i clock place task task.agent (λ a has left. (let lt = slice_get_within loads0 a (load_for m task) (tied.known a m task there has left) in omega arith)) in
    let tasks_are : tasks ≡ arrived_tasks clock place tasks0 = is.tasks_are ∙ map-agree (arrived_task clock place) (arrived_below i clock place) tasks0 each in
    record {
      tasks_are = tasks_are;
      loads_are = rw tasks_are (is.loads_are ∙ ap (λ ls. map (arrived_load (arrived_tasks clock place tasks0)) ls ++ drop i loads0) (take_all i loads0 all)
          ∙ ap (λ ls. map (arrived_load (arrived_tasks clock place tasks0)) loads0 ++ ls) (drop_all i loads0 all) ∙ append-nil (map (arrived_load (arrived_tasks clock place tasks0)) loads0));
      picked_is = is.picked_is ∙ count-agree (λ task. is_picked task (arrived_task clock place task)) (λ task. is_picked task (arrived_below i clock place task)) tasks0
          (λ m task there. ap (is_picked task) (each m task there));
      dropped_is = is.dropped_is ∙ count-agree (λ task. is_dropped task (arrived_task clock place task)) (λ task. is_dropped task (arrived_below i clock place task)) tasks0
          (λ m task there. ap (is_dropped task) (each m task there));
    }

-- a `bool` as a number
pub byte-bit : (b : Bool) → bool_byte b ≡ bit b
byte-bit true = refl
byte-bit false = refl
