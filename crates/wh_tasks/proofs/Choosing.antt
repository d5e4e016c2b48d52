-- which task is chosen
use Rattle.std.proofs.Common.{◌≡◌, ◌≢◌, ℕ, ◌+◌, ◌-◌, ◌<◌, ◌⊎◌, List, length, get_or, ap, sym, ◌∙◌, arith, refl, subst}
use Rattle.std.specs.Prelude.{Option, Some, None, All, Contains, is_some, IsTrue, ◌↔◌, Bool, true, false}
use Rattle.std.proofs.lemmas.Option.{slice_get_within, same_Some, slice_get-get_or, get_or_from_slice_get}
use Rattle.std.proofs.lemmas.List.{get_or_default}
use Rattle.std.proofs.lemmas.List.Elements.{All-get_or}
use Rattle.wh_grid.specs.declared.cell.Cell.{Cell}
use Rattle.wh_grid.specs.Grids.{Floor}
use Rattle.wh_field.specs.Distances.{IsDistance}
use Rattle.wh_field.proofs.DistanceLaws.{distance_one}
use Rattle.wh_tasks.specs.declared.task.Task.{Task}
use Rattle.wh_tasks.specs.Tasks.{IsOpen, IsTask, delivery}
use Rattle.wh_tasks.specs.Changes.{IsOrderly}
use Rattle.wh_tasks.specs.Choice.{IsEligible}

-- below the next number it is below this one, or is it
pub cases_lt-suc : (k i : ℕ) → k < i + 1 → (k < i) ⊎ (k ≡ i)
cases_lt-suc k i lt = grind arith

-- a number has one task
pub same-task : (tasks : List Task) (n : ℕ) (a b : Task) → IsTask tasks n a → IsTask tasks n b → a ≡ b
same-task tasks n a b p q = same_Some a b (sym p ∙ q)

-- a pair of cells has one distance
pub same-distance : (g : Floor) (here to : Cell) (d e : Option ℕ) → IsDistance g here to d → IsDistance g here to e → d ≡ e
same-distance g here to d e p q = distance_one g here to d p ∙ sym (distance_one g here to e q)

-- an option that is none, and one that is not
pub none-is : {X : Type 0} (o : Option X) → is_some o ≡ false → o ≡ None
none-is None h = refl
none-is (Some x) h = cc

pub some-not : {X : Type 0} (o : Option X) → is_some o ≡ true → o ≢ None
some-not None h = cc
some-not (Some x) h = λ e. cc

-- what a read inside a list gives
pub task-read : (tasks : List Task) (n : ℕ) (task : Task) → n < length tasks → task ≡ get_or tasks n task → IsTask tasks n task
task-read tasks n task lt is = slice_get-get_or tasks n task lt ∙ ap (λ t. Some t) (sym is)

-- an open task may be chosen exactly where none of its stops is an end
pub eligible-from : (tasks : List Task) (ends : List Cell) (n : ℕ) (task : Task) (clear : Bool) → IsTask tasks n task → task.agent ≡ None →
    (IsTrue clear ↔ All (λ stop. ¬ Contains ends stop) task.stops) → IsTrue clear ↔ ((t : Task) × IsEligible tasks ends n t)
eligible-from tasks ends n task clear there is_open iff = (
  λ is. (task, record { there = there; is_open = is_open; clear = iff.0 is }),
  λ (t, eligible). iff.1 (subst (λ (u : Task). All (λ stop. ¬ Contains ends stop) u.stops) (same-task tasks n t task eligible.there there) eligible.clear),
)

-- a task that is not open may not be chosen
pub ineligible : (tasks : List Task) (ends : List Cell) (n : ℕ) (task : Task) → IsTask tasks n task → is_some task.agent ≡ true → ((t : Task) × IsEligible tasks ends n t) → ⊥
ineligible tasks ends n task there taken (t, eligible) =
    let none : task.agent ≡ None = subst IsOpen (same-task tasks n t task eligible.there there) eligible.is_open in
    let e = rw none at taken in
    cc

-- where a task is delivered it has a stop
pub delivery-stop : (tasks : List Task) (n : ℕ) (task : Task) (cell : Cell) → All IsOrderly tasks → IsTask tasks n task → delivery task ≡ cell → Contains task.stops cell
delivery-stop tasks n task cell all there e =
    let orderly : IsOrderly task = subst IsOrderly (get_or_from_slice_get tasks n task task there) (All-get_or IsOrderly tasks n task (slice_get_within tasks n task there) all) in
    let last : length task.stops - 1 < length task.stops = (let two = orderly.two in omega arith) in
    (length task.stops - 1, last, get_or_default task.stops (length task.stops - 1) cell (record { x = 0; y = 0 }) last ∙ e)
