-- the loop over the agents that looks one step ahead
use Rattle.std.proofs.Common.{◌≡◌, ◌≢◌, ℕ, ◌+◌, ◌<◌, ◌≤◌, List, [], length, map, ap, sym, ◌∙◌, arith, subst}
use Rattle.std.specs.Prelude.{Option, Some, None, slice_get, count_by}
use Rattle.std.proofs.lemmas.Option.{slice_get_within, same_Some}
use Rattle.std.proofs.lemmas.List.{get_or-map}
use Rattle.wh_grid.specs.declared.cell.Cell.{Cell}
use Rattle.wh_path.specs.Paths.{at, path_of, place_of, advanced}
use Rattle.wh_path.proofs.AtLemmas.{at-advanced}
use Rattle.wh_tasks.specs.declared.task.Task.{Task}
use Rattle.wh_tasks.specs.declared.task.Load.{Load}
use Rattle.wh_tasks.specs.declared.arrivals.Foretold.{Foretold}
use Rattle.wh_tasks.specs.Tasks.{IsTask, visited, load_for}
use Rattle.wh_tasks.specs.Arrivals.{visited_at, arrived_task, is_picked, is_dropped, picked, dropped}
use Rattle.wh_tasks.specs.Loads.{task_of}
use Rattle.wh_tasks.specs.Visiting.{Foretells}
use Rattle.wh_state.specs.Standings.{AreTied}
use Rattle.wh_state.specs.Arriving.{ForetellsBy}
use Rattle.wh_state.proofs.Pointwise.{count-agree, count-none, bit}
use Rattle.wh_state.proofs.Below.{arrived_below, below-none, below-all, picked-same, dropped-same, done-unless}
use Rattle.wh_state.proofs.Steps.{count-kept, count-more, bit-few}

-- how far the loop has come: the arrivals of the agents below a number are counted
pub record IsForetelling (clock : ℕ) (place : ℕ → Cell) (tasks : List Task) (i first last : ℕ) : Type 0 where
  pub picked_is : first ≡ count_by (λ task. is_picked task (arrived_below i clock place task)) tasks
  pub dropped_is : last ≡ count_by (λ task. is_dropped task (arrived_below i clock place task)) tasks
  pub picked_few : first ≤ i
  pub dropped_few : last ≤ i

pub foretelling-start : (clock : ℕ) (place : ℕ → Cell) (tasks : List Task) → IsForetelling clock place tasks 0 0 0
foretelling-start clock place tasks = record {
  picked_is = sym (count-none _ tasks (λ task. ap (is_picked task) (below-none clock place task task.agent) ∙ picked-same task));
  dropped_is = sym (count-none _ tasks (λ task. ap (is_dropped task) (below-none clock place task task.agent) ∙ dropped-same task));
  picked_few = omega arith;
  dropped_few = omega arith;
}

-- one agent more is counted
pub foretelling-step : (clock : ℕ) (place : ℕ → Cell) (loads : List Load) (tasks : List Task) (i first last : ℕ) (load : Load) (named : Option ℕ) (told : Foretold) →
    AreTied loads tasks → slice_get loads i ≡ Some load → task_of load ≡ named → IsForetelling clock place tasks i first last →
    ForetellsBy clock (place i) tasks named told → IsForetelling clock place tasks (i + 1) (first + bit told.picked) (last + bit told.dropped)
foretelling-step clock place loads tasks i first last load None told tied has names is tells =
    let done : (m : ℕ) (task : Task) → IsTask tasks m task → task.agent ≡ Some i → length task.stops ≤ visited task =
    λ m task there. done-unless loads tasks i m load task tied has there (λ e. (let no : None ≡ Some m = sym names ∙ e in cc)) in
    record {
      picked_is =
          let none : bit told.picked ≡ 0 = ap (λ (a : Foretold). bit a.picked) tells in
          let a = is.picked_is in
          let b = count-kept is_picked clock place tasks i done in
          omega arith;
      dropped_is =
          let none : bit told.dropped ≡ 0 = ap (λ (a : Foretold). bit a.dropped) tells in
          let a = is.dropped_is in
          let b = count-kept is_dropped clock place tasks i done in
          omega arith;
      picked_few = let a = is.picked_few in let b = bit-few told.picked in omega arith;
      dropped_few = let a = is.dropped_few in let b = bit-few told.dropped in omega arith;
    }
foretelling-step clock place loads tasks i first last load (Some n) told tied has names is tells =
    let holds = tied.holds i n load has names in
    let task = holds.task in
    let v = visited_at clock (place i) in
    let one : tells.0 ≡ task = same_Some tells.0 task (sym tells.1 ∙ holds.there) in
    let here : Foretells task (v task) told = subst (λ t. Foretells t (v t) told) one tells.2 in
    let done : (m : ℕ) (other : Task) → IsTask tasks m other → m ≢ n → other.agent ≡ Some i → length other.stops ≤ visited other =
    λ m other there ne. done-unless loads tasks i m load other tied has there (λ e. ne (let same : n ≡ m = same_Some n m (sym names ∙ e) in sym same)) in
    record {
      picked_is =
          let b = count-more is_picked clock place tasks i n task (record { fails = picked-same }) holds.there holds.agent_is done in
          let told' : bit told.picked ≡ bit (is_picked task (v task)) = ap bit here.picked in
          let a = is.picked_is in
          omega arith;
      dropped_is =
          let b = count-more is_dropped clock place tasks i n task (record { fails = dropped-same }) holds.there holds.agent_is done in
          let told' : bit told.dropped ≡ bit (is_dropped task (v task)) = ap bit here.dropped in
          let a = is.dropped_is in
          omega arith;
      picked_few = let a = is.picked_few in let b = bit-few told.picked in omega arith;
      dropped_few = let a = is.dropped_few in let b = bit-few told.dropped in omega arith;
    }

-- with all agents counted, all arrivals are
all-arrived : (clock : ℕ) (place : ℕ → Cell) (loads : List Load) (tasks : List Task) (i : ℕ) → AreTied loads tasks → length loads ≤ i →
    (m : ℕ) (task : Task) → IsTask tasks m task → arrived_below i clock place task ≡ arrived_task clock place task
all-arrived clock place loads tasks i tied all m task there =
    below-all i clock place task task.agent (λ a has left. (let lt = slice_get_within loads a (load_for m task) (tied.known a m task there has left) in omega arith))

pub foretold-picked : (clock : ℕ) (place : ℕ → Cell) (loads : List Load) (tasks : List Task) (i first last : ℕ) →
    AreTied loads tasks → length loads ≤ i → IsForetelling clock place tasks i first last → first ≡ picked clock place tasks
foretold-picked clock place loads tasks i first last tied all is =
    is.picked_is ∙ count-agree (λ task. is_picked task (arrived_task clock place task)) (λ task. is_picked task (arrived_below i clock place task)) tasks
    (λ m task there. ap (is_picked task) (all-arrived clock place loads tasks i tied all m task there))

pub foretold-dropped : (clock : ℕ) (place : ℕ → Cell) (loads : List Load) (tasks : List Task) (i first last : ℕ) →
    AreTied loads tasks → length loads ≤ i → IsForetelling clock place tasks i first last → last ≡ dropped clock place tasks
foretold-dropped clock place loads tasks i first last tied all is =
    is.dropped_is ∙ count-agree (λ task. is_dropped task (arrived_task clock place task)) (λ task. is_dropped task (arrived_below i clock place task)) tasks
    (λ m task there. ap (is_dropped task) (all-arrived clock place loads tasks i tied all m task there))

-- where an agent will be one step of time later
pub place-next : (paths : List (List Cell)) (i : ℕ) → i < length paths → place_of (map advanced paths) i ≡ at (path_of paths i) 1
place-next paths i lt = ap (λ p. at p 0) (get_or-map advanced paths i [] [] lt) ∙ at-advanced (path_of paths i) 0
