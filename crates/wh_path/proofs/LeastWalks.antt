-- between any two cells there is a shortest walk, or none: a walk that comes twice to one cell can be cut, so that only few lengths have to be tried
use Rattle.std.proofs.Common.{◌≡◌, ◌≢◌, ℕ, ◌+◌, ◌-◌, ◌*◌, ◌<◌, ◌≤◌, ◌⊎◌, inl, inr, ◌∙◌, List, [], ◌∷◌, ◌++◌, refl, sym, ap, subst, suc, zero, arith, Bool, true, false, Option, Some, None, slice_get}
use Rattle.std.proofs.lemmas.Bool.{cases_lt, cases_eq}
use Rattle.std.proofs.lemmas.Nat.{mul-add-lt, same_from_place}
use Rattle.std.proofs.lemmas.List.{length_push}
use Rattle.wh_grid.specs.declared.cell.Cell.{Cell}
use Rattle.wh_grid.specs.Grids.{Floor, IsPassable, IsMove}
use Rattle.wh_grid.proofs.Cells.{same_cell}
use Rattle.wh_grid.proofs.Pigeons.{cell_cases}
use Rattle.wh_path.specs.Paths.{at, last_index}
use Rattle.wh_path.specs.Walks.{IsWalkBetween, IsLeastWalk}
use Rattle.wh_path.proofs.WalkLemmas.{walk_one, walk_push}

-- among n + 1 numbers below n two are the same
pub record Twice (f : ℕ → ℕ) (n : ℕ) : Type 0 where
  pub first : ℕ
  pub second : ℕ
  pub before : first < second
  pub within : second ≤ n
  pub same : f first ≡ f second

find_same : (f : ℕ → ℕ) (v m : ℕ) → ((i : ℕ) × (i < m) × (f i ≡ v)) ⊎ ((i : ℕ) → i < m → f i ≢ v)
find_same f v zero = inr (λ i h. absurd (omega arith))
find_same f v (suc m) =
    elim (cases_eq (f m) v) [
      | inl e ↦ inl (m, omega arith, e)
      | inr ne ↦ elim (find_same f v m) [
        | inl a ↦ inl (a.0, (let h = a.1 in omega arith), a.2)
        | inr none ↦ inr (λ i h. elim (cases_lt i m) [ inl less ↦ none i less | inr more ↦ subst (λ (x : ℕ). f x ≢ v) (let e : m ≡ i = omega arith in e) ne ])
      ]
    ]

-- v in place of m
moved : ℕ → ℕ → ℕ → ℕ
moved v m x = elim (cases_eq x m) [ inl e ↦ v | inr ne ↦ x ]

moved_at : (v m x : ℕ) → ((x ≡ m) × (moved v m x ≡ v)) ⊎ ((x ≢ m) × (moved v m x ≡ x))
unfolding moved
moved_at v m x =
    elim (cases_eq x m) as (λ w. ((x ≡ m) × ((elim w [ inl e ↦ v | inr ne ↦ x ]) ≡ v)) ⊎ ((x ≢ m) × ((elim w [ inl e ↦ v | inr ne ↦ x ]) ≡ x))) [
      | inl e ↦ inl (e, refl)
      | inr ne ↦ inr (ne, refl)
    ]

pub twice : (n : ℕ) (f : ℕ → ℕ) → ((i : ℕ) → i ≤ n → f i < n) → Twice f n
twice zero f small = absurd (let h = small 0 (omega arith) in omega arith)
twice (suc m) f small =
    elim (find_same f (f (suc m)) (suc m)) [
      | inl a ↦ record { first = a.0; second = suc m; before = a.1; within = omega arith; same = a.2 }
      | inr none ↦ (let v = f (suc m) in
          let g : ℕ → ℕ = λ i. moved v m (f i) in
          let high : v < suc m = small (suc m) (omega arith) in
          let low : (i : ℕ) → i ≤ m → g i < m = λ i h. elim (moved_at v m (f i)) [
            | inl a ↦ (let ne = none i (omega arith) in let e = a.0 in let z = a.1 in elim (cases_eq v m) [ inl q ↦ absurd (ne (e ∙ sym q)) | inr q ↦ omega arith ])
            | inr a ↦ (let e = a.0 in let z = a.1 in let s = small i (omega arith) in elim (cases_eq (f i) m) [ inl q ↦ absurd (e q) | inr q ↦ omega arith ])
          ] in
          let t = twice m g low in
          let b = t.before in
          let w = t.within in
          record {
            first = t.first;
            second = t.second;
            before = t.before;
            within = omega arith;
            same = elim (moved_at v m (f t.first)) [
              | inl p ↦ elim (moved_at v m (f t.second)) [ inl q ↦ p.0 ∙ sym q.0 | inr q ↦ absurd (none t.second (omega arith) (sym q.1 ∙ sym t.same ∙ p.1)) ]
              | inr p ↦ elim (moved_at v m (f t.second)) [ inl q ↦ absurd (none t.first (omega arith) (sym p.1 ∙ t.same ∙ q.1)) | inr q ↦ sym p.1 ∙ t.same ∙ q.1 ]
            ];
          })
    ]

-- after n steps a walk from a cell may be at c
abbrev pub Comes : Floor → Cell → ℕ → Cell → Type 0
Comes g from zero c = IsPassable g c × (from ≡ c)
Comes g from (suc n) c = IsPassable g c × ((d : Cell) × Comes g from n d × IsMove d c)

-- and then there is such a walk
pub comes_path : (g : Floor) (from : Cell) (n : ℕ) (c : Cell) → Comes g from n c → (p : List Cell) × IsWalkBetween g from c p × (last_index p ≡ n)
comes_path g from zero c h = (c ∷ [], subst (λ (x : Cell). IsWalkBetween g x c (c ∷ [])) (sym h.1) (walk_one g c h.0), refl)
comes_path g from (suc n) c h =
    let r = comes_path g from n h.1.0 h.1.1 in
    let some = r.1.walk.non_empty in
    let size = r.2 in
    (r.0 ++ c ∷ [], walk_push g from h.1.0 c r.0 r.1 h.0 h.1.2, omega (arith, length_push r.0 c))

-- a walk comes to each of its cells
path_goes : (g : Floor) (from to : Cell) (p : List Cell) → IsWalkBetween g from to p → (m k l : ℕ) → Comes g from m (at p k) → Comes g from (m + l) (at p (k + l))
path_goes g from to p h m k zero c =
    subst (λ (x : ℕ). Comes g from x (at p (k + 0))) (let e : m ≡ m + 0 = omega arith in e) (subst (λ (x : ℕ). Comes g from m (at p x)) (let e : k ≡ k + 0 = omega arith in e) c)
path_goes g from to p h m k (suc l) c =
    let before = path_goes g from to p h m k l c in
    let next : Comes g from (suc (m + l)) (at p (k + l + 1)) = (h.walk.passable (k + l + 1), (at p (k + l), before, h.walk.moves (k + l))) in
    subst (λ (x : ℕ). Comes g from x (at p (k + suc l))) (let e : suc (m + l) ≡ m + suc l = omega arith in e)
    (subst (λ (x : ℕ). Comes g from (suc (m + l)) (at p x)) (let e : k + l + 1 ≡ k + suc l = omega arith in e) next)

pub path_comes : (g : Floor) (from to : Cell) (p : List Cell) → IsWalkBetween g from to p → (k : ℕ) → Comes g from k (at p k)
path_comes g from to p h k =
    let first : Comes g from 0 (at p 0) = (h.walk.passable 0, sym h.starts) in
    let r = path_goes g from to p h 0 0 k first in
    let P : ℕ → Type 0 = λ x. Comes g from x (at p x) in
    subst P (let e : 0 + k ≡ k = omega arith in e) r

-- the number of a cell within the sides
cell_number : Floor → Cell → ℕ
cell_number g c = c.y * g.width + c.x

number_small : (g : Floor) (c : Cell) → IsPassable g c → cell_number g c < g.width * g.height
unfolding cell_number
number_small g c p = mul-add-lt c.y g.width c.x g.height p.in_height p.in_width

number_one : (g : Floor) (c d : Cell) → IsPassable g c → IsPassable g d → cell_number g c ≡ cell_number g d → c ≡ d
unfolding cell_number
number_one g c d p q e =
    let s = same_from_place c.y c.x d.y d.x g.width p.in_width q.in_width e in
    same_cell c d s.1 s.0

-- what is reached is reached by few steps
pub shorter : (g : Floor) (from : Cell) (b n : ℕ) (c : Cell) → n ≤ b → Comes g from n c → (m : ℕ) × (m ≤ g.width * g.height) × Comes g from m c
shorter g from zero n c h r = (n, omega arith, r)
shorter g from (suc b) n c h r =
    elim (cases_lt (g.width * g.height) n) [
      | inr few ↦ (n, few, r)
      | inl many ↦ (let path = comes_path g from n c r in
          let p = path.0 in
          let is_path = path.1 in
          let size = path.2 in
          let t = twice (g.width * g.height) (λ k. cell_number g (at p k)) (λ k k_few. number_small g (at p k) (is_path.walk.passable k)) in
          let i = t.first in
          let j = t.second in
          let before = t.before in
          let within = t.within in
          let same : at p i ≡ at p j = number_one g (at p i) (at p j) (is_path.walk.passable i) (is_path.walk.passable j) t.same in
          let there : Comes g from i (at p j) = subst (Comes g from i) same (path_comes g from c p is_path i) in
          let on : Comes g from (i + (n - j)) (at p (j + (n - j))) = path_goes g from c p is_path i j (n - j) there in
          let at_end : at p (j + (n - j)) ≡ c = ap (at p) (let e : j + (n - j) ≡ last_index p = omega arith in e) ∙ is_path.ends in
          shorter g from b (i + (n - j)) c (omega arith) (subst (Comes g from (i + (n - j))) at_end on))
    ]

-- it can be told whether n steps lead to a cell
is_some_true : (o : Option Bool) → (o ≡ Some true) ⊎ (o ≢ Some true)
is_some_true None = inr (λ e. cc)
is_some_true (Some true) = inl refl
is_some_true (Some false) = inr (λ e. cc)

passable_or : (g : Floor) (c : Cell) → IsPassable g c ⊎ ¬ IsPassable g c
passable_or g c =
    elim (cases_lt c.x g.width) [
      | inr out ↦ inr (λ p. let h = p.in_width in omega arith)
      | inl wx ↦ elim (cases_lt c.y g.height) [
        | inr out ↦ inr (λ p. let h = p.in_height in omega arith)
        | inl wy ↦ elim (is_some_true (slice_get g.walkable (c.y * g.width + c.x))) [
          | inl e ↦ inl (record { in_width = wx; in_height = wy; is_walkable = e })
          | inr ne ↦ inr (λ p. ne p.is_walkable)
        ]
      ]
    ]

right : Cell → Cell
right c = record { x = c.x + 1; y = c.y }

left : Cell → Cell
left c = record { x = c.x - 1; y = c.y }

lower : Cell → Cell
lower c = record { x = c.x; y = c.y + 1 }

upper : Cell → Cell
upper c = record { x = c.x; y = c.y - 1 }

from_right : (c : Cell) → IsMove (right c) c
unfolding right
from_right c = inr (inl (refl, inr refl))

from_left : (c : Cell) → IsMove (left c) c
unfolding left
from_left c = elim (cases_lt 0 c.x) [ inl some ↦ inr (inl (refl, inl (omega arith))) | inr none ↦ inl (same_cell (record { x = c.x - 1; y = c.y }) c (omega arith) refl) ]

from_lower : (c : Cell) → IsMove (lower c) c
unfolding lower
from_lower c = inr (inr (refl, inr refl))

from_upper : (c : Cell) → IsMove (upper c) c
unfolding upper
from_upper c = elim (cases_lt 0 c.y) [ inl some ↦ inr (inr (refl, inl (omega arith))) | inr none ↦ inl (same_cell (record { x = c.x; y = c.y - 1 }) c refl (omega arith)) ]

-- a move to a cell is from one of five
one_of_five : (P : Cell → Type 0) (c d : Cell) → IsMove d c → P d → ¬ P c → ¬ P (right c) → ¬ P (left c) → ¬ P (lower c) → ¬ P (upper c) → ⊥
unfolding right left lower upper
one_of_five P c d (inl e) p here a b l u = here (subst P e p)
one_of_five P c d (inr (inl (e, inl f))) p here a b l u = b (subst P (same_cell d (record { x = c.x - 1; y = c.y }) (omega arith) e) p)
one_of_five P c d (inr (inl (e, inr f))) p here a b l u = a (subst P (same_cell d (record { x = c.x + 1; y = c.y }) (sym f) e) p)
one_of_five P c d (inr (inr (e, inl f))) p here a b l u = u (subst P (same_cell d (record { x = c.x; y = c.y - 1 }) e (omega arith)) p)
one_of_five P c d (inr (inr (e, inr f))) p here a b l u = l (subst P (same_cell d (record { x = c.x; y = c.y + 1 }) e (sym f)) p)

comes_or : (g : Floor) (from : Cell) (n : ℕ) (c : Cell) → Comes g from n c ⊎ (Comes g from n c → ⊥)
comes_or g from zero c =
    elim (passable_or g c) [
      | inr ne ↦ inr (λ h. ne h.0)
      | inl p ↦ elim (cell_cases from c) [ inl e ↦ inl (p, e) | inr ne ↦ inr (λ h. ne h.1) ]
    ]
comes_or g from (suc n) c =
    elim (passable_or g c) [
      | inr ne ↦ inr (λ h. ne h.0)
      | inl p ↦ elim (comes_or g from n c) [
        | inl h ↦ inl (p, (c, h, inl refl))
        | inr here ↦ elim (comes_or g from n (right c)) [
          | inl h ↦ inl (p, (right c, h, from_right c))
          | inr a ↦ elim (comes_or g from n (left c)) [
            | inl h ↦ inl (p, (left c, h, from_left c))
            | inr b ↦ elim (comes_or g from n (lower c)) [
              | inl h ↦ inl (p, (lower c, h, from_lower c))
              | inr l ↦ elim (comes_or g from n (upper c)) [
                | inl h ↦ inl (p, (upper c, h, from_upper c))
                | inr u ↦ inr (λ h. one_of_five (Comes g from n) c h.1.0 h.1.2 h.1.1 here a b l u)
              ]
            ]
          ]
        ]
      ]
    ]

-- the first number of steps that leads to a cell, from n on
first_from : (g : Floor) (from to : Cell) (k n : ℕ) → ((m : ℕ) → m < n → Comes g from m to → ⊥)
    → ((m : ℕ) × Comes g from m to × ((l : ℕ) → l < m → Comes g from l to → ⊥)) ⊎ ((m : ℕ) → m < n + k → Comes g from m to → ⊥)
first_from g from to zero n none = inr (λ m h. none m (omega arith))
first_from g from to (suc k) n none =
    elim (comes_or g from n to) [
      | inl c ↦ inl (n, c, none)
      | inr never ↦ (let more : (m : ℕ) → m < n + 1 → Comes g from m to → ⊥ = λ m h. elim (cases_lt m n) [ inl less ↦ none m less | inr same ↦ subst (λ (x : ℕ). Comes g from x to → ⊥) (let e : n ≡ m = omega arith in e) never ] in
          elim (first_from g from to k (n + 1) more) [
            | inl a ↦ inl a
            | inr b ↦ inr (λ m h. b m (omega arith))
          ])
    ]

walk_comes : (g : Floor) (from to : Cell) (q : List Cell) → IsWalkBetween g from to q → Comes g from (last_index q) to
walk_comes g from to q w = subst (Comes g from (last_index q)) w.ends (path_comes g from to q w (last_index q))

-- between each two cells there is a shortest walk, or none
pub least_walk : (g : Floor) (from to : Cell) → ((p : List Cell) × IsLeastWalk g from to p) ⊎ ((p : List Cell) → IsWalkBetween g from to p → ⊥)
least_walk g from to =
    elim (first_from g from to (g.width * g.height + 1) 0 (λ m h. absurd (omega arith))) [
      | inl a ↦ (let path = comes_path g from a.0 to a.1 in
          let size = path.2 in
          inl (
            path.0,
            record {
              walk = path.1;
              least = λ q w. elim (cases_lt (last_index q) a.0) [ inl less ↦ absurd (a.2 (last_index q) less (walk_comes g from to q w)) | inr more ↦ omega arith ];
            },
          ))
      | inr none ↦ inr (λ q w. let s = shorter g from (last_index q) (last_index q) to (omega arith) (walk_comes g from to q w) in let few = s.1 in none s.0 (omega arith) s.2)
    ]
