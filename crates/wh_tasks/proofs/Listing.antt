-- the stops of the open tasks in the lists
use Rattle.std.proofs.Common.{◌≡◌, ◌≢◌, ℕ, ◌+◌, ◌-◌, ◌<◌, ◌≤◌, ◌⊎◌, inl, inr, List, [], ◌∷◌, ◌++◌, Option, Some, None, length, get_or, map, ap, sym, ◌∙◌, refl, subst, arith, length-append}
use Prim.Native.Nat.{zero, suc}
use Rattle.std.specs.Prelude.{◌↔◌, Contains, IfSome, IfNone, IsTrue, is_some, slice_get}
use Rattle.std.proofs.lemmas.Bool.{cases_eq}
use Rattle.std.proofs.lemmas.Option.{same_Some, slice_get_within}
use Rattle.std.proofs.lemmas.List.{get_or_default, length-map}
use Rattle.wh_grid.specs.declared.cell.Cell.{Cell}
use Rattle.wh_path.specs.Paths.{cell_at}
use Rattle.wh_tasks.specs.declared.task.Task.{Task}
use Rattle.wh_tasks.specs.declared.cell_lists.Stop.{Stop}
use Rattle.wh_tasks.specs.Tasks.{IsTask, IsOpen}
use Rattle.wh_tasks.specs.Changes.{changed_at, fresh, assigned}
use Rattle.wh_tasks.specs.CellLists.{StandsAt, Stands, IsLastBelow, NoneBelow, listed, AreTakenOut}
use Rattle.wh_tasks.specs.Sets.{AreListed}
use Rattle.wh_tasks.proofs.Edits.{length-changed_at, length-snoc, changed-there, changed-cases, changed-other, snoc-cases, get-snoc-old, get-snoc-new, there-new, there-append}
use Rattle.wh_tasks.proofs.Choosing.{same-task}
use Rattle.wh_tasks.proofs.Walking.{stands-one, bound_of, none-between}

-- the cells of a task as they stand in the lists
listed-get : (n : ℕ) (cells : List Cell) (i : ℕ) → i < length cells → slice_get (map (listed n) cells) i ≡ Some (listed n (cell_at cells i))
listed-get n [] i lt = absurd (omega arith)
listed-get n (c ∷ cs) zero lt = refl
listed-get n (c ∷ cs) (suc i) lt = listed-get n cs i (let h : i < length cs = omega arith in h)

listed-cases : (n : ℕ) (cells : List Cell) (i : ℕ) (s : Stop) → slice_get (map (listed n) cells) i ≡ Some s → (i < length cells) × (s ≡ listed n (cell_at cells i))
listed-cases n [] i s is = absurd (let clash : None ≡ Some s = is in cc)
listed-cases n (c ∷ cs) zero s is = (omega arith, same_Some s (listed n c) (sym is))
listed-cases n (c ∷ cs) (suc i) s is = let rest = listed-cases n cs i s is in (let h = rest.0 in omega (arith, h), rest.1)

-- a stop beside more is one of those, or was there
append-cases : (xs ys : List Stop) (k : ℕ) (s : Stop) → slice_get (xs ++ ys) k ≡ Some s → (slice_get xs k ≡ Some s) ⊎ ((i : ℕ) × (k ≡ length xs + i) × (slice_get ys i ≡ Some s))
append-cases [] ys k s is = inr (k, (let e : k ≡ 0 + k = omega arith in e), is)
append-cases (x ∷ xs) ys zero s is = inl is
append-cases (x ∷ xs) ys (suc k) s is = elim (append-cases xs ys k s is) [
  | inl h ↦ inl h
  | inr h ↦ inr (h.0, (let e = h.1 in let e' : suc k ≡ suc (length xs) + h.0 = omega (arith, e) in e'), h.2)
]

get-append-new : (xs ys : List Stop) (i : ℕ) → slice_get (xs ++ ys) (length xs + i) ≡ slice_get ys i
get-append-new [] ys i = ap (λ k. slice_get ys k) (let e : 0 + i ≡ i = omega arith in e)
get-append-new (x ∷ xs) ys i = ap (λ k. slice_get (x ∷ (xs ++ ys)) k) (let e : suc (length xs) + i ≡ suc (length xs + i) = omega arith in e) ∙ get-append-new xs ys i

-- one task more is open, and its stops come
pub listed-submitted : (tasks : List Task) (firsts : List ℕ) (stops : List Stop) (client : List ℕ) (cells : List Cell) (clock : ℕ) → AreListed tasks firsts stops → length cells ≤ 8 →
    AreListed (tasks ++ fresh client cells clock ∷ []) (firsts ++ length stops ∷ []) (stops ++ map (listed (length tasks)) cells)
listed-submitted tasks firsts stops client cells clock are eight =
    let t : Task = fresh client cells clock in
    let N = length tasks in
    let more = map (listed N) cells in
    let firsts' = firsts ++ length stops ∷ [] in
    let each = are.each in
    let old : (n : ℕ) (u : Task) → IsTask tasks n u → get_or firsts' n 0 ≡ get_or firsts n 0 = λ n u there.
    get-snoc-old firsts (length stops) 0 n (let h = slice_get_within tasks n u there in omega (arith, h, each)) in
    let new : get_or firsts' N 0 ≡ length stops = ap (λ k. get_or firsts' k 0) (sym each) ∙ get-snoc-new firsts (length stops) 0 in
    record {
      each = length-snoc firsts (length stops) ∙ ap (λ k. suc k) each ∙ sym (length-snoc tasks t);
      few =
          let a = length-append stops more in
          let b : length more ≡ length cells = length-map cells (listed N) in
          let c = length-snoc tasks t in
          let d = are.few in
          omega (arith, a, b, c, d, eight);
      there = λ n u i there is_open lt. elim (snoc-cases tasks t n u there) [
        | inl was ↦ rw (old n u was) (there-append stops more _ _ (are.there n u i was is_open lt))
        | inr now ↦
            let lt' : i < length cells = subst (λ (w : Task). i < length w.stops) now.1 lt in
            rw (now.0, now.1, new) (get-append-new stops more i ∙ listed-get N cells i lt')
      ];
      only = λ k n cell stands. elim (append-cases stops more k (listed n cell) stands) [
        | inl was ↦
            let one = are.only k n cell was in
            (one.0, there-append tasks (t ∷ []) n one.0 one.1, one.2, one.3, one.4 ∙ ap (λ f. f + one.3) (sym (old n one.0 one.1)), one.5, one.6)
        | inr now ↦
            let at = listed-cases N cells now.0 (listed n cell) now.2 in
            let same = stands-one (listed n cell ∷ []) 0 n N cell (cell_at cells now.0) refl (ap (λ (s : Stop). Some s) at.1) in
            (t, rw same.0 (there-new tasks t), refl, now.0, now.1 ∙ ap (λ f. f + now.0) (sym (ap (λ k. get_or firsts' k 0) same.0 ∙ new)), at.0, same.1)
      ];
    }

-- one task more has an agent, and no stop comes
pub listed-begun : (tasks : List Task) (firsts : List ℕ) (stops : List Stop) (task : Task) (first : ℕ) → AreListed tasks firsts stops → task.agent ≢ None →
    AreListed (tasks ++ task ∷ []) (firsts ++ first ∷ []) stops
listed-begun tasks firsts stops task first are begun =
    let firsts' = firsts ++ first ∷ [] in
    let each = are.each in
    let old : (n : ℕ) (u : Task) → IsTask tasks n u → get_or firsts' n 0 ≡ get_or firsts n 0 = λ n u there.
    get-snoc-old firsts first 0 n (let h = slice_get_within tasks n u there in omega (arith, h, each)) in
    record {
      each = length-snoc firsts first ∙ ap (λ k. suc k) each ∙ sym (length-snoc tasks task);
      few = let c = length-snoc tasks task in let d = are.few in omega (arith, c, d);
      there = λ n u i there is_open lt. elim (snoc-cases tasks task n u there) [
        | inl was ↦ rw (old n u was) (are.there n u i was is_open lt)
        | inr now ↦ absurd (begun (subst IsOpen now.1 is_open))
      ];
      only = λ k n cell stands.
          let one = are.only k n cell stands in
          (one.0, there-append tasks (task ∷ []) n one.0 one.1, one.2, one.3, one.4 ∙ ap (λ f. f + one.3) (sym (old n one.0 one.1)), one.5, one.6);
    }

-- a number is in a range, or before it, or after it
range-cases : (k first count : ℕ) → ((first ≤ k) × (k < first + count)) ⊎ ((k < first) ⊎ (first + count ≤ k))
range-cases k first count = grind arith

-- one task is not open any more, and its stops are taken out
pub listed-assigned : (tasks : List Task) (firsts : List ℕ) (old new : List Stop) (n agent : ℕ) (task : Task) → AreListed tasks firsts old → IsTask tasks n task → IsOpen task →
    AreTakenOut (get_or firsts n 0) (length task.stops) old new → AreListed (changed_at n (assigned agent) tasks) firsts new
listed-assigned tasks firsts old new n agent task are at is_open taken =
    let f : Task → Task = assigned agent in
    let first = get_or firsts n 0 in
    let count = length task.stops in
    record {
      each = are.each ∙ sym (length-changed_at tasks n f);
      few = let a = taken.each in let b = are.few in let c = length-changed_at tasks n f in omega (arith, a, b, c);
      there = λ m u i there opened lt. elim (changed-cases tasks n f m u there) [
        | inl was ↦
            let k = get_or firsts m 0 + i in
            let stands = are.there m u i was.1 opened lt in
            elim (range-cases k first count) [
              | inl inside ↦ absurd (was.0 (within-one are at is_open k m (cell_at u.stops i) inside.0 inside.1 stands))
              | inr outside ↦ taken.others k outside ∙ stands
            ]
        | inr now ↦ absurd (let clash : None ≡ Some agent = sym opened ∙ ap (λ (w : Task). w.agent) now.3 in cc)
      ];
      only = λ k m cell stands. elim (range-cases k first count) [
        | inl inside ↦ absurd (taken.out k m cell inside.0 inside.1 stands)
        | inr outside ↦
            let one = are.only k m cell (sym (taken.others k outside) ∙ stands) in
            let apart : m ≢ n = λ same.
            let t : one.0 ≡ task = same-task tasks n one.0 task (subst (λ j. IsTask tasks j one.0) same one.1) at in
            let e : k ≡ get_or firsts n 0 + one.3 = subst (λ j. k ≡ get_or firsts j 0 + one.3) same one.4 in
            let lt : one.3 < length task.stops = subst (λ (w : Task). one.3 < length w.stops) t one.5 in
            elim outside [ inl h ↦ absurd (omega (arith, h, e)) | inr h ↦ absurd (omega (arith, h, e, lt)) ] in
            (one.0, changed-other tasks n f m apart ∙ one.1, one.2, one.3, one.4, one.5, one.6)
      ];
    }
  where
    within-one : {tasks : List Task} {firsts : List ℕ} {old : List Stop} {n : ℕ} {task : Task} → AreListed tasks firsts old → IsTask tasks n task → IsOpen task →
        (k m : ℕ) (cell : Cell) → get_or firsts n 0 ≤ k → k < get_or firsts n 0 + length task.stops → StandsAt old k m cell → m ≡ n
    within-one {tasks} {firsts} {old} {n} {task} are at is_open k m cell low high stands =
        let i = k - get_or firsts n 0 in
        let e : get_or firsts n 0 + i ≡ k = omega (arith, low, high) in
        let mine = are.there n task i at is_open (omega (arith, low, high)) in
        (stands-one old k m n cell (cell_at task.stops i) stands (rw e at mine)).0

-- a change that leaves the stops and the agent of a task
pub listed-kept : (tasks : List Task) (firsts : List ℕ) (stops : List Stop) (n : ℕ) (f : Task → Task) → ((t : Task) → (f t).stops ≡ t.stops) → ((t : Task) → (f t).agent ≡ t.agent) →
    AreListed tasks firsts stops → AreListed (changed_at n f tasks) firsts stops
listed-kept tasks firsts stops n f stops_are agent are = record {
  each = are.each ∙ sym (length-changed_at tasks n f);
  few = rw (length-changed_at tasks n f) are.few;
  there = λ m u i there is_open lt. elim (changed-cases tasks n f m u there) [
    | inl was ↦ are.there m u i was.1 is_open lt
    | inr now ↦
        let cells : u.stops ≡ now.1.stops = ap (λ (w : Task). w.stops) now.3 ∙ stops_are now.1 in
        let opened : IsOpen now.1 = sym (agent now.1) ∙ sym (ap (λ (w : Task). w.agent) now.3) ∙ is_open in
        rw cells (are.there m now.1 i now.2 opened (rw cells at lt))
  ];
  only = λ k m cell stands.
      let one = are.only k m cell stands in
      elim (cases_eq m n) [
        | inl same ↦ (
          f one.0,
          changed-there tasks n f m one.0 same one.1,
          agent one.0 ∙ one.2,
          one.3,
          one.4,
          rw (stops_are one.0) one.5,
          rw (stops_are one.0) one.6,
        )
        | inr apart ↦ (one.0, changed-other tasks n f m apart ∙ one.1, one.2, one.3, one.4, one.5, one.6)
      ];
}

-- the stops of an open task stand in the lists
pub listed-stands : (tasks : List Task) (firsts : List ℕ) (stops : List Stop) (n : ℕ) (task : Task) → AreListed tasks firsts stops → IsTask tasks n task → IsOpen task →
    (i : ℕ) → i < length task.stops → Stands stops (get_or firsts n 0 + i)
listed-stands tasks firsts stops n task are at is_open i lt = (n, cell_at task.stops i, are.there n task i at is_open lt)

-- and none of them is beyond the last stop
pub listed-fit : (tasks : List Task) (firsts : List ℕ) (stops : List Stop) (n : ℕ) (task : Task) → AreListed tasks firsts stops → IsTask tasks n task → IsOpen task → 1 ≤ length task.stops →
    get_or firsts n 0 + length task.stops ≤ length stops
listed-fit tasks firsts stops n task are at is_open some =
    let i = length task.stops - 1 in
    let last = slice_get_within stops (get_or firsts n 0 + i) _ (are.there n task i at is_open (omega (arith, some))) in
    omega (arith, some, last)

-- where an open task stops at a cell, a stop of it stands there
pub stop-listed : (tasks : List Task) (firsts : List ℕ) (stops : List Stop) (n : ℕ) (task : Task) (cell : Cell) → AreListed tasks firsts stops → IsTask tasks n task → IsOpen task → Contains task.stops cell →
    (k : ℕ) × StandsAt stops k n cell
stop-listed tasks firsts stops n task cell are there is_open has = (
  get_or firsts n 0 + has.0,
  subst (λ (c : Cell). StandsAt stops (get_or firsts n 0 + has.0) n c) (get_or_default task.stops has.0 (record { x = 0; y = 0 }) cell has.1 ∙ has.2) (are.there n task has.0 there is_open has.1),
)

-- a stop at a cell is one of an open task that stops there
pub stands-stop : (tasks : List Task) (firsts : List ℕ) (stops : List Stop) (k n : ℕ) (cell : Cell) → AreListed tasks firsts stops → StandsAt stops k n cell →
    (task : Task) × IsTask tasks n task × IsOpen task × Contains task.stops cell
stands-stop tasks firsts stops k n cell are stands =
    let one = are.only k n cell stands in
    (one.0, one.1, one.2, (one.3, one.5, get_or_default one.0.stops one.3 cell (record { x = 0; y = 0 }) one.5 ∙ sym one.6))

-- the task of a stop is open
pub stop-open : (tasks : List Task) (firsts : List ℕ) (stops : List Stop) (k n : ℕ) (cell : Cell) (task : Task) → AreListed tasks firsts stops → StandsAt stops k n cell → IsTask tasks n task → IsOpen task
stop-open tasks firsts stops k n cell task are stands there =
    let one = are.only k n cell stands in
    subst IsOpen (same-task tasks n one.0 task one.1 there) one.2

pub stop-within : (tasks : List Task) (firsts : List ℕ) (stops : List Stop) (k n : ℕ) (cell : Cell) → AreListed tasks firsts stops → StandsAt stops k n cell → n < length tasks
stop-within tasks firsts stops k n cell are stands = let one = are.only k n cell stands in slice_get_within tasks n one.0 one.1

-- where a stop is told at a cell, and only there, an open task stops at the cell
pub stop-told : (tasks : List Task) (firsts : List ℕ) (stops : List Stop) (cell : Cell) (at : Option ℕ) → AreListed tasks firsts stops →
    IfSome at (λ k. IsLastBelow stops cell (length stops) k) → IfNone at (NoneBelow stops cell (length stops)) →
    IsTrue (is_some at) ↔ ((n : ℕ) × (task : Task) × IsTask tasks n task × IsOpen task × Contains task.stops cell)
stop-told tasks firsts stops cell None are some none = (
  λ e. cc,
  λ (n, task, there, is_open, has). absurd (let stop = stop-listed tasks firsts stops n task cell are there is_open has in none stop.0 n (slice_get_within stops stop.0 (listed n cell) stop.1) stop.1),
)
stop-told tasks firsts stops cell (Some k) are some none = (
  λ e. (let one = stands-stop tasks firsts stops k some.task cell are some.stands in (some.task, one.0, one.1, one.2, one.3)),
  λ stop. refl,
)

-- none of the tasks that stand at the cell from a number on is such a task
abbrev pub NoneFrom : List Task → List Stop → Cell → (Task → Type 0) → ℕ → Type 0
NoneFrom tasks stops cell P from = (j n : ℕ) (task : Task) → from ≤ j → StandsAt stops j n cell → IsTask tasks n task → P task → ⊥

-- a walk goes on from a stop, which is of no such task, to the latest before it
pub walk-next : (tasks : List Task) (stops : List Stop) (cell : Cell) (P : Task → Type 0) (k n : ℕ) (task : Task) (at : Option ℕ) →
    StandsAt stops k n cell → IsTask tasks n task → ¬ P task → NoneFrom tasks stops cell P (suc k) →
    IfSome at (λ j. IsLastBelow stops cell k j) → IfNone at (NoneBelow stops cell k) → NoneFrom tasks stops cell P (bound_of at)
walk-next tasks stops cell P k n task at here there not later some none = λ j m other from stands is_there is.
    elim (order-cases j k) [
      | inl higher ↦ later j m other higher stands is_there is
      | inr (inl same) ↦
          let number = (stands-one stops k n m cell cell here (rw same at stands)).0 in
          not (subst P (same-task tasks n other task (rw number is_there) there) is)
      | inr (inr lower) ↦ none-between stops cell k at some none j m from lower stands
    ]
  where
    order-cases : (j k : ℕ) → (suc k ≤ j) ⊎ ((j ≡ k) ⊎ (j < k))
    order-cases j k = grind arith

-- at its end none of the open tasks that stop at the cell is such a task
pub walk-end : (tasks : List Task) (firsts : List ℕ) (stops : List Stop) (cell : Cell) (P : Task → Type 0) → AreListed tasks firsts stops → NoneFrom tasks stops cell P 0 →
    (n : ℕ) (task : Task) → IsTask tasks n task → IsOpen task → Contains task.stops cell → ¬ P task
walk-end tasks firsts stops cell P are none n task there is_open has is =
    let stop = stop-listed tasks firsts stops n task cell are there is_open has in
    none stop.0 n task (omega arith) stop.1 there is

-- what is read of the firsts is the first of the task
pub first-read : (firsts : List ℕ) (n first : ℕ) → n < length firsts → first ≡ get_or firsts n first → first ≡ get_or firsts n 0
first-read firsts n first lt is = is ∙ get_or_default firsts n first 0 lt
