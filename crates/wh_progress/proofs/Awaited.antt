-- open tasks, and the cells where they are to be delivered
use Rattle.std.proofs.Common.{◌≡◌, ℕ, ◌+◌, ◌≤◌, List, [], ◌∷◌, ◌++◌, Bool, true, false, Some, None, ◌||◌, ◌&&◌, length, get_or, set, refl, sym, ap, subst, arith, ◌∙◌, inl, inr}
use Prim.Native.Nat.{zero, suc}
use Rattle.std.proofs.lemmas.Bool.{false≢true, and_parts, and_from, or_cases, or_left, or_right}
use Rattle.std.proofs.lemmas.Option.{same_Some, slice_get_within, get_or_from_slice_get}
use Rattle.wh_grid.specs.declared.cell.Cell.{Cell}
use Rattle.wh_grid.specs.Cells.{is_cell}
use Rattle.wh_grid.proofs.Cells.{is_cell-same, is_cell-one}
use Rattle.wh_tasks.specs.declared.task.Task.{Task}
use Rattle.wh_tasks.specs.declared.task.Phase.{Phase}
use Rattle.wh_tasks.specs.Tasks.{IsTask, IsOpen, visited, phase_of, phase, delivery}
use Rattle.wh_tasks.specs.Changes.{is_phase, count_in}
use Rattle.wh_tasks.specs.Arrivals.{arrived_task, arrived_tasks}
use Rattle.wh_tasks.proofs.Loads.{is_open, is_assigned, is_carried, is_done, comes_to}
use Rattle.wh_tasks.proofs.Visiting.{option_cases, arrived-open, arrived-agent}
use Rattle.wh_core.proofs.Lists.{map_from, slice_get_push}
use Rattle.wh_core.proofs.Work.{set-from}
use Rattle.wh_progress.specs.Progress.{is_awaited}
use Rattle.wh_progress.proofs.Counting.{bit, count-mapped, count-set, count-push, count-some}

-- whether a task is open
abbrev pub waits : Task → Bool
waits task = is_phase Phase.Open (phase task)

pub waits-open : (task : Task) → IsOpen task → waits task ≡ true
waits-open task is = ap (λ a. is_phase Phase.Open (phase_of a (visited task) (length task.stops))) is

pub open-waits : (task : Task) → waits task ≡ true → IsOpen task
open-waits task e = elim (comes_to 0 task) [
  | is_open o p l ↦ o
  | is_assigned a o s p l ↦ absurd (false≢true (sym (ap (λ q. is_phase Phase.Open q) p) ∙ e))
  | is_carried a o s u p l ↦ absurd (false≢true (sym (ap (λ q. is_phase Phase.Open q) p) ∙ e))
  | is_done a o s u p l ↦ absurd (false≢true (sym (ap (λ q. is_phase Phase.Open q) p) ∙ e))
]

pub taken-waits : (task : Task) (agent : ℕ) → task.agent ≡ Some agent → waits task ≡ false
taken-waits task agent is = elim (comes_to 0 task) [
  | is_open o p l ↦ absurd (let clash : None ≡ Some agent = sym o ∙ is in cc)
  | is_assigned a o s p l ↦ ap (λ q. is_phase Phase.Open q) p
  | is_carried a o s u p l ↦ ap (λ q. is_phase Phase.Open q) p
  | is_done a o s u p l ↦ ap (λ q. is_phase Phase.Open q) p
]

pub none-there : {A : Type 0} (n : ℕ) (task : Task) → IsTask [] n task → A
none-there n task is = absurd (let e : None ≡ Some task = is in cc)

-- an open task awaits its agent at its last stop
pub awaited-from : (tasks : List Task) (n : ℕ) (task : Task) (c : Cell) → IsTask tasks n task → IsOpen task → delivery task ≡ c → is_awaited tasks c ≡ true
awaited-from [] n task c is opens e = none-there n task is
awaited-from (t ∷ tasks) zero task c is opens e =
    let same : t ≡ task = same_Some t task is in
    let first : (waits task && is_cell c (delivery task)) ≡ true = and_from _ _ (waits-open task opens) (is_cell-one c (delivery task) (sym e)) in
    or_left _ _ (subst (λ u. (waits u && is_cell c (delivery u)) ≡ true) (sym same) first)
awaited-from (t ∷ tasks) (suc n) task c is opens e = or_right _ _ (awaited-from tasks n task c is opens e)

-- an open task that is to be delivered at a cell
pub record Awaits (tasks : List Task) (c : Cell) : Type 0 where
  pub number : ℕ
  pub task : Task
  pub there : IsTask tasks number task
  pub opens : IsOpen task
  pub at_it : delivery task ≡ c

pub awaited-is : (tasks : List Task) (c : Cell) → is_awaited tasks c ≡ true → Awaits tasks c
awaited-is [] c e = absurd (false≢true e)
awaited-is (t ∷ tasks) c e = elim (or_cases _ _ e) [
  | inl first ↦
      let both = and_parts _ _ first in
      record { number = 0; task = t; there = refl; opens = open-waits t both.0; at_it = sym (is_cell-same c (delivery t) both.1) }
  | inr rest ↦
      let a = awaited-is tasks c rest in
      record { number = suc a.number; task = a.task; there = a.there; opens = a.opens; at_it = a.at_it }
]

-- each open task of the new ones was there
abbrev pub WereOpen : List Task → List Task → Type 0
WereOpen old new = (n : ℕ) (task : Task) → IsTask new n task → IsOpen task → IsTask old n task

pub awaited-less : (old new : List Task) → WereOpen old new → (c : Cell) → is_awaited new c ≡ true → is_awaited old c ≡ true
awaited-less old new were c e =
    let a = awaited-is new c e in
    awaited-from old a.number a.task c (were a.number a.task a.there a.opens) a.opens a.at_it

pub were_open-arrived : (clock : ℕ) (place : ℕ → Cell) (tasks : List Task) → WereOpen tasks (arrived_tasks clock place tasks)
were_open-arrived clock place tasks n task is opens =
    let from = map_from (arrived_task clock place) tasks n task is in
    let was : from.0.agent ≡ None = sym (arrived-agent clock place from.0) ∙ ap (λ (t : Task). t.agent) from.2 ∙ opens in
    subst (λ t. IsTask tasks n t) (sym (arrived-open clock place from.0 was) ∙ from.2) from.1

pub were_open-assigned : (agent n : ℕ) (task : Task) (tasks : List Task) → IsTask tasks n task → WereOpen tasks (set tasks n (record task { agent = Some agent }))
were_open-assigned agent n task tasks there k t is opens =
    elim (set-from tasks n (record task { agent = Some agent }) k t (slice_get_within tasks n task there) is) [
      | inl new ↦ absurd (let clash : Some agent ≡ None = ap (λ (u : Task). u.agent) new.1 ∙ opens in cc)
      | inr old ↦ old.1
    ]

pub were_open-trans : (a b c : List Task) → WereOpen a b → WereOpen b c → WereOpen a c
were_open-trans a b c h k n task is opens = h n task (k n task is opens) opens

-- with one task more, a cell was awaited or is where that one is to be delivered
pub awaited-push : (tasks : List Task) (task : Task) (c : Cell) → is_awaited (tasks ++ task ∷ []) c ≡ true → (is_awaited tasks c || is_cell c (delivery task)) ≡ true
awaited-push tasks task c e =
    let a = awaited-is (tasks ++ task ∷ []) c e in
    elim (slice_get_push tasks task a.number a.task a.there) [
      | inl was ↦ or_left _ _ (awaited-from tasks a.number a.task c was a.opens a.at_it)
      | inr last ↦ or_right _ _ (is_cell-one c (delivery task) (sym (ap (λ (t : Task). delivery t) last.1 ∙ a.at_it)))
    ]

-- how many are open
waits-arrived : (clock : ℕ) (place : ℕ → Cell) (task : Task) → waits (arrived_task clock place task) ≡ waits task
waits-arrived clock place task = elim (option_cases task.agent) [
  | inl none ↦ ap (λ t. waits t) (arrived-open clock place task none)
  | inr some ↦ taken-waits (arrived_task clock place task) some.0 (arrived-agent clock place task ∙ some.1) ∙ sym (taken-waits task some.0 some.1)
]

pub open-arrived : (clock : ℕ) (place : ℕ → Cell) (tasks : List Task) → count_in Phase.Open (arrived_tasks clock place tasks) ≡ count_in Phase.Open tasks
open-arrived clock place tasks = count-mapped (λ t. waits t) (arrived_task clock place) tasks (waits-arrived clock place)

pub open-assigned : (agent n : ℕ) (task : Task) (tasks : List Task) → IsTask tasks n task → IsOpen task →
    count_in Phase.Open (set tasks n (record task { agent = Some agent })) + 1 ≡ count_in Phase.Open tasks
open-assigned agent n task tasks there opens =
    let given : Task = record task { agent = Some agent } in
    let h = slice_get_within tasks n task there in
    let change = count-set (λ t. waits t) tasks n given task h in
    let before : bit (waits (get_or tasks n task)) ≡ 1 = ap (λ t. bit (waits t)) (get_or_from_slice_get tasks n task task there) ∙ ap bit (waits-open task opens) in
    let after : bit (waits given) ≡ 0 = ap bit (taken-waits given agent refl) in
    omega arith

pub open-push : (tasks : List Task) (task : Task) → IsOpen task → count_in Phase.Open (tasks ++ task ∷ []) ≡ count_in Phase.Open tasks + 1
open-push tasks task opens = (let more = count-push (λ t. waits t) tasks task in let one : bit (waits task) ≡ 1 = ap bit (waits-open task opens) in omega arith)

-- a task that is open is counted
pub open-counted : (tasks : List Task) (n : ℕ) (task : Task) → IsTask tasks n task → IsOpen task → 1 ≤ count_in Phase.Open tasks
open-counted tasks n task there opens =
    count-some (λ t. waits t) tasks n task (slice_get_within tasks n task there)
    (ap (λ t. waits t) (get_or_from_slice_get tasks n task task there) ∙ waits-open task opens)
