-- what a set of tasks keeps, after each change
use Rattle.std.proofs.Common.{◌≡◌, ℕ, ◌+◌, ◌<◌, ◌≤◌, ◌⊎◌, List, [], ◌∷◌, ◌++◌, length, map, get_or, suc, ap, sym, ◌∙◌, arith, refl, subst}
use Rattle.std.specs.Prelude.{◌≢◌, ◌↔◌, Option, Some, None, IfSome, IfNone, All, Contains}
use Rattle.std.proofs.lemmas.Option.{slice_get_within, get_or_from_slice_get}
use Rattle.std.proofs.lemmas.List.{nil_from_length}
use Rattle.std.proofs.lemmas.List.Elements.{All-push, All-get_or}
use Rattle.wh_grid.specs.declared.cell.Cell.{Cell}
use Rattle.wh_tasks.specs.declared.task.Task.{Task}
use Rattle.wh_tasks.specs.declared.task.Phase.{Phase}
use Rattle.wh_tasks.specs.declared.task.Counts.{Counts}
use Rattle.wh_tasks.specs.declared.cell_lists.Stop.{Stop}
use Rattle.wh_tasks.specs.Tasks.{IsOpen, IsTask, visited, phase, phase_of}
use Rattle.wh_tasks.specs.Changes.{changed_at, fresh, assigned, visited_once, visit_of, counted_more, counted_assign, counted_visit, CanCount, IsUnderway, IsInTime, IsOrderly}
use Rattle.wh_tasks.specs.CellLists.{listed, AreTakenOut}
use Rattle.wh_tasks.specs.NumberSets.{Members}
use Rattle.wh_tasks.specs.Bars.{AreBars}
use Rattle.wh_tasks.specs.Sets.{IsIndexed}
use Rattle.wh_tasks.proofs.Edits.{length-changed_at, All-changed_at, length-snoc}
use Rattle.wh_tasks.proofs.Counting.{Moves, count-moved, counts-more, counts-assigned, counts-visited, passes-visited, underway-left}
use Rattle.wh_tasks.proofs.Listing.{listed-submitted, listed-begun, listed-assigned, listed-kept}
use Rattle.wh_tasks.proofs.Barred.{bars-submitted, bars-begun, bars-assigned, bars-kept}
use Rattle.wh_tasks.proofs.Orders.{orderly-fresh, orderly-assigned, orderly-visited}

-- the task of a number is orderly
pub orderly-at : (tasks : List Task) (n : ℕ) (task : Task) → All IsOrderly tasks → IsTask tasks n task → IsOrderly task
orderly-at tasks n task all there = subst IsOrderly (get_or_from_slice_get tasks n task task there) (All-get_or IsOrderly tasks n task (slice_get_within tasks n task there) all)

-- what an open task passes through when it is assigned
pub moves-assigned : (tasks : List Task) (n agent : ℕ) (task : Task) → All IsOrderly tasks → IsTask tasks n task → IsOpen task →
    Moves tasks (changed_at n (assigned agent) tasks) Phase.Open Phase.Assigned
moves-assigned tasks n agent task all there is_open =
    let is = orderly-at tasks n task all there in
    let before : phase task ≡ Phase.Open = ap (λ a. phase_of a (visited task) (length task.stops)) is_open in
    let after : phase (assigned agent task) ≡ Phase.Assigned = ap (λ seen. phase_of (Some agent) seen (length task.stops)) (is.unvisited is_open) in
    count-moved tasks n (assigned agent) task Phase.Open Phase.Assigned there before after

-- a task that is assigned or carried has an agent, and a stop is left
pub record HasStopLeft (task : Task) : Type 0 where
  pub agent : ℕ
  pub agent_is : task.agent ≡ Some agent
  pub left : visited task < length task.stops

pub stop-left : (tasks : List Task) (n : ℕ) (task : Task) → All IsOrderly tasks → IsUnderway tasks n task → HasStopLeft task
stop-left tasks n task all under =
    let is = orderly-at tasks n task all under.there in
    let parts = underway-left task.agent (visited task) (length task.stops) is.two under.is_underway in
    record { agent = parts.0.0; agent_is = parts.0.1; left = parts.1 }

-- one task more
pub indexed-submitted : (tasks : List Task) (counts : Counts) (ends : List Cell) (listed_stops : List Stop) (firsts : List ℕ) (bars : List (Option Cell)) (clear clear' : Members) (client : List ℕ) (stops : List Cell) (clock : ℕ) (bar : Option Cell) →
    IsIndexed tasks counts ends listed_stops firsts bars clear → 2 ≤ length stops → length stops ≤ 8 → length tasks < 1000000 →
    IfSome bar (λ cell. Contains stops cell × Contains ends cell) → IfNone bar (All (λ cell. ¬ Contains ends cell) stops) →
    ((m : ℕ) → Contains clear'.members m ↔ (Contains clear.members m ⊎ ((bar ≡ None) × (m ≡ length tasks)))) → clear'.bound ≡ clear.bound + 1 →
    IsIndexed (tasks ++ fresh client stops clock ∷ []) (counted_more Phase.Open counts) ends (listed_stops ++ map (listed (length tasks)) stops) (firsts ++ length listed_stops ∷ []) (bars ++ bar ∷ []) clear'
indexed-submitted tasks counts ends listed_stops firsts bars clear clear' client stops clock bar is two eight few some none put bound = record {
  few = rw (length-snoc tasks (fresh client stops clock)) few;
  orderly = All-push IsOrderly tasks (fresh client stops clock) is.orderly (orderly-fresh client stops clock two eight);
  counts_are = ap (counted_more Phase.Open) is.counts_are ∙ sym (counts-more tasks (fresh client stops clock) Phase.Open refl);
  stops_are = listed-submitted tasks firsts listed_stops client stops clock is.stops_are eight;
  bars_are = bars-submitted tasks ends bars clear.members clear'.members client stops clock bar is.bars_are some none put;
  bound_is = let a = is.bound_is in let b = length-snoc tasks (fresh client stops clock) in omega (arith, a, b, bound);
}

-- one task more, which an agent has
pub indexed-begun : (tasks : List Task) (counts : Counts) (ends : List Cell) (stops : List Stop) (firsts : List ℕ) (bars : List (Option Cell)) (clear clear' : Members) (task : Task) (first : ℕ) →
    IsIndexed tasks counts ends stops firsts bars clear → IsOrderly task → task.agent ≢ None → length tasks < 1000000 → clear'.members ≡ clear.members → clear'.bound ≡ clear.bound + 1 →
    IsIndexed (tasks ++ task ∷ []) (counted_more (phase task) counts) ends stops (firsts ++ first ∷ []) (bars ++ None ∷ []) clear'
indexed-begun tasks counts ends stops firsts bars clear clear' task first is orderly begun few same bound = record {
  few = rw (length-snoc tasks task) few;
  orderly = All-push IsOrderly tasks task is.orderly orderly;
  counts_are = ap (counted_more (phase task)) is.counts_are ∙ sym (counts-more tasks task (phase task) refl);
  stops_are = listed-begun tasks firsts stops task first is.stops_are begun;
  bars_are = subst (λ members. AreBars (tasks ++ task ∷ []) ends (bars ++ None ∷ []) members) (sym same) (bars-begun tasks ends bars clear.members task is.bars_are begun);
  bound_is = let a = is.bound_is in let b = length-snoc tasks task in omega (arith, a, b, bound);
}

-- an open task is as it was submitted
pub fresh-is : (task : Task) → IsOrderly task → IsOpen task → fresh task.client task.stops task.submitted ≡ task
fresh-is task orderly is_open =
    let none : task.visits ≡ [] = nil_from_length task.visits (orderly.unvisited is_open) in
    λ i. record { client = task.client; stops = task.stops; submitted = task.submitted; agent = sym is_open i; visits = sym none i }

-- one task is given to an agent
pub indexed-assigned : (tasks : List Task) (counts : Counts) (ends : List Cell) (old new : List Stop) (firsts : List ℕ) (bars : List (Option Cell)) (clear clear' : Members) (n agent : ℕ) (task : Task) →
    IsIndexed tasks counts ends old firsts bars clear → IsTask tasks n task → IsOpen task → AreTakenOut (get_or firsts n 0) (length task.stops) old new →
    ((m : ℕ) → Contains clear'.members m ↔ (Contains clear.members m × (m ≢ n))) → clear'.bound ≡ clear.bound →
    (1 ≤ counts.open_tasks) × IsIndexed (changed_at n (assigned agent) tasks) (counted_assign counts) ends new firsts bars clear'
indexed-assigned tasks counts ends old new firsts bars clear clear' n agent task is there is_open taken out bound =
    let counted = counts-assigned tasks (changed_at n (assigned agent) tasks) (moves-assigned tasks n agent task is.orderly there is_open) in (
      rw is.counts_are counted.0,
      record {
        few = rw (length-changed_at tasks n (assigned agent)) is.few;
        orderly = All-changed_at IsOrderly tasks n (assigned agent) task there (orderly-assigned agent task (orderly-at tasks n task is.orderly there)) is.orderly;
        counts_are = ap counted_assign is.counts_are ∙ sym counted.1;
        stops_are = listed-assigned tasks firsts old new n agent task is.stops_are there is_open taken;
        bars_are = bars-assigned tasks ends bars clear.members clear'.members n agent task is.bars_are there out;
        bound_is = bound ∙ is.bound_is ∙ sym (length-changed_at tasks n (assigned agent));
      },
    )

-- a stop of one task is visited
pub indexed-visited : (tasks : List Task) (counts : Counts) (ends : List Cell) (stops : List Stop) (firsts : List ℕ) (bars : List (Option Cell)) (clear : Members) (n clock : ℕ) (task : Task) →
    IsIndexed tasks counts ends stops firsts bars clear → IsUnderway tasks n task → IsInTime clock task →
    CanCount (visit_of task) counts × IsIndexed (changed_at n (visited_once clock) tasks) (counted_visit (visit_of task) counts) ends stops firsts bars clear
indexed-visited tasks counts ends stops firsts bars clear n clock task is under in_time =
    let orderly = orderly-at tasks n task is.orderly under.there in
    let has = stop-left tasks n task is.orderly under in
    let agent_is = has.agent_is in
    let seen : visited (visited_once clock task) ≡ suc (visited task) = length-snoc task.visits clock in
    let from = phase_of (Some has.agent) (visited task) (length task.stops) in
    let to = phase_of (Some has.agent) (suc (visited task)) (length task.stops) in
    let was : phase task ≡ from = ap (λ a. phase_of a (visited task) (length task.stops)) agent_is in
    let then : phase (visited_once clock task) ≡ to =
    ap (λ a. phase_of a (visited (visited_once clock task)) (length task.stops)) agent_is ∙ ap (λ v. phase_of (Some has.agent) v (length task.stops)) seen in
    let counted = counts-visited (visit_of task) tasks (changed_at n (visited_once clock) tasks) from to
    (passes-visited has.agent (visited task) (length task.stops) orderly.two has.left)
    (count-moved tasks n (visited_once clock) task from to under.there was then) in (
      rw is.counts_are counted.0,
      record {
        few = rw (length-changed_at tasks n (visited_once clock)) is.few;
        orderly = All-changed_at IsOrderly tasks n (visited_once clock) task under.there (orderly-visited clock task has.agent agent_is has.left in_time orderly) is.orderly;
        counts_are = ap (counted_visit (visit_of task)) is.counts_are ∙ sym counted.1;
        stops_are = listed-kept tasks firsts stops n (visited_once clock) (λ t. refl) (λ t. refl) is.stops_are;
        bars_are = bars-kept tasks ends bars clear.members n (visited_once clock) (λ t. refl) (λ t. refl) is.bars_are;
        bound_is = is.bound_is ∙ sym (length-changed_at tasks n (visited_once clock));
      },
    )
