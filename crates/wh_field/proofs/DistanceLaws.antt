-- the laws of distances
use Rattle.std.proofs.Common.{◌≡◌, ◌≢◌, ℕ, ◌+◌, ◌≤◌, ◌⊎◌, inl, inr, ◌∙◌, List, [], ◌∷◌, ◌++◌, reverse, refl, sym, ap, subst, suc, zero, add-one, arith, Option, Some, None, IsSomeAnd}
use Rattle.std.proofs.lemmas.Bool.{cases_lt, cases_eq}
use Rattle.std.proofs.lemmas.List.{length_push, length-reverse}
use Rattle.wh_grid.specs.declared.cell.Cell.{Cell}
use Rattle.wh_grid.specs.Grids.{Floor, IsPassable, IsAdjacent, IsMove}
use Rattle.wh_path.specs.Paths.{at, last_index}
use Rattle.wh_path.specs.Walks.{IsWalkBetween}
use Rattle.wh_path.proofs.LeastWalks.{least_walk, comes_path, path_comes}
use Rattle.wh_path.proofs.WalkLemmas.{walk_one, walk_push, walk_reverse, move_back}
use Rattle.wh_field.specs.Distances.{IsDistance, distance}

-- the distance is one
pub distance_is : (g : Floor) (from to : Cell) → IsDistance g from to (distance g from to)
unfolding distance
distance_is g from to =
    elim (least_walk g from to) as (λ w. IsDistance g from to (elim w [ inl p ↦ Some (last_index p.0) | inr none ↦ None ])) [
      | inl p ↦ (p.0, p.1, refl)
      | inr none ↦ none
    ]

one_distance : (g : Floor) (from to : Cell) (o r : Option ℕ) → IsDistance g from to o → IsDistance g from to r → o ≡ r
one_distance g from to None None a b = refl
one_distance g from to None (Some n) a b = absurd (a b.0 b.1.walk)
one_distance g from to (Some n) None a b = absurd (b a.0 a.1.walk)
one_distance g from to (Some n) (Some m) a b =
    let h = a.1.least b.0 b.1.walk in
    let k = b.1.least a.0 a.1.walk in
    let e = a.2 in
    let f = b.2 in
    ap (λ (x : ℕ). Some x) (let z : n ≡ m = omega arith in z)

pub distance_one : (g : Floor) (from to : Cell) (o : Option ℕ) → IsDistance g from to o → o ≡ distance g from to
distance_one g from to o h = one_distance g from to o (distance g from to) h (distance_is g from to)

-- a passable cell is at distance 0 of itself
pub distance_start : (g : Floor) (c : Cell) → IsPassable g c → distance g c c ≡ Some 0
distance_start g c p =
    sym (distance_one g c c (Some 0) (c ∷ [], record { walk = walk_one g c p; least = λ q w. omega arith }, refl))

falls_to : (g : Floor) (from d : Cell) (n : ℕ) (o : Option ℕ) (q : List Cell) → IsWalkBetween g from d q → last_index q ≡ n → IsDistance g from d o → IsSomeAnd o (λ m. m ≤ n)
falls_to g from d n None q w e h = absurd (h q w)
falls_to g from d n (Some m) q w e h = let l = h.1.least q w in let f = h.2 in omega arith

-- in one step it grows by at most 1
pub distance_falls : (g : Floor) (from c d : Cell) (n : ℕ) → IsPassable g d → IsMove c d → distance g from c ≡ Some n → IsSomeAnd (distance g from d) (λ m. m ≤ n + 1)
distance_falls g from c d n p m e =
    let h : IsDistance g from c (Some n) = subst (IsDistance g from c) e (distance_is g from c) in
    let some = h.1.walk.walk.non_empty in
    let size = h.2 in
    falls_to g from d (n + 1) (distance g from d) (h.0 ++ d ∷ []) (walk_push g from c d h.0 h.1.walk p m) (omega (arith, length_push h.0 d)) (distance_is g from d)

back_to : (g : Floor) (from to : Cell) (o : Option ℕ) → IsDistance g from to o → IsDistance g to from o
back_to g from to None h = λ q w. h (reverse q) (walk_reverse g to from q w)
back_to g from to (Some n) h =
    let size = h.2 in
    let long = length-reverse h.0 in (
      reverse h.0,
      record {
        walk = walk_reverse g from to h.0 h.1.walk;
        least = λ q w. let l = h.1.least (reverse q) (walk_reverse g to from q w) in let k = length-reverse q in omega arith;
      },
      omega arith,
    )

-- it is the same both ways
pub distance_back : (g : Floor) (from to : Cell) → distance g from to ≡ distance g to from
distance_back g from to = distance_one g to from (distance g from to) (back_to g from to (distance g from to) (distance_is g from to))

-- the cell before the last one of a shortest walk
pub record IsStepBefore (g : Floor) (from c : Cell) (n : ℕ) : Type 0 where
  pub cell : Cell
  pub adjacent : IsAdjacent cell c
  pub near : distance g from cell ≡ Some n

step_before : (g : Floor) (from c : Cell) (n : ℕ) → distance g from c ≡ Some (n + 1) → IsStepBefore g from c n
step_before g from c n e =
    let h : IsDistance g from c (Some (n + 1)) = subst (IsDistance g from c) e (distance_is g from c) in
    let p = h.0 in
    let w = h.1.walk in
    let size = h.2 in
    let d = at p n in
    let at_end : at p (n + 1) ≡ c = ap (at p) (sym h.2) ∙ w.ends in
    let before = comes_path g from n d (path_comes g from c p w n) in
    let few = before.2 in
    let move : IsMove d c = subst (IsMove d) at_end (w.walk.moves n) in
    let at_c = subst (IsPassable g) at_end (w.walk.passable (n + 1)) in
    let least : (r : List Cell) → IsWalkBetween g from d r → n ≤ last_index r = λ r v.
    let some = v.walk.non_empty in let l = h.1.least (r ++ c ∷ []) (walk_push g from d c r v at_c move) in let k = length_push r c in omega arith in
    record {
      cell = d;
      adjacent = elim move [
        | inr a ↦ a
        | inl same ↦ absurd (let l = h.1.least before.0 (subst (λ (x : Cell). IsWalkBetween g from x before.0) same before.1) in omega arith)
      ];
      near = sym (distance_one g from d (Some n) (before.0, record { walk = before.1; least = λ r v. let l = least r v in omega arith }, before.2));
    }

-- rows, columns and steps together are even
parity : (g : Floor) (from : Cell) (n : ℕ) (c : Cell) → distance g from c ≡ Some n → (k : ℕ) × (c.x + c.y + (from.x + from.y) + n ≡ k + k)
parity g from zero c e =
    let h : IsDistance g from c (Some 0) = subst (IsDistance g from c) e (distance_is g from c) in
    let w = h.1.walk in
    let same : from ≡ c = sym w.starts ∙ ap (at h.0) (sym h.2) ∙ w.ends in
    let ex : from.x ≡ c.x = ap (λ (d : Cell). d.x) same in
    let ey : from.y ≡ c.y = ap (λ (d : Cell). d.y) same in
    (c.x + c.y, omega arith)
parity g from (suc n) c e =
    let b = step_before g from c n (e ∙ ap (λ (m : ℕ). Some m) (sym (add-one n))) in
    let r = parity g from n b.cell b.near in
    let k = r.1 in
    elim b.adjacent [
      | inl (y, inl x) ↦ (r.0 + 1, omega arith)
      | inl (y, inr x) ↦ (r.0, omega arith)
      | inr (x, inl y) ↦ (r.0 + 1, omega arith)
      | inr (x, inr y) ↦ (r.0, omega arith)
    ]

differ : (g : Floor) (from c d : Cell) (n m : ℕ) → IsAdjacent c d → distance g from c ≡ Some n → distance g from d ≡ Some m → n ≢ m
differ g from c d n m a e f same =
    let p = parity g from n c e in
    let q = parity g from m d f in
    let j = p.1 in
    let k = q.1 in
    elim a [
      | inl (y, inl x) ↦ omega arith
      | inl (y, inr x) ↦ omega arith
      | inr (x, inl y) ↦ omega arith
      | inr (x, inr y) ↦ omega arith
    ]

one_apart : (g : Floor) (from c d : Cell) (n : ℕ) (o : Option ℕ) → IsAdjacent c d → distance g from c ≡ Some n → distance g from d ≡ o → IsSomeAnd o (λ m. m ≤ n + 1) → ((m : ℕ) → o ≡ Some m → n ≤ m + 1) → IsSomeAnd o (λ m. (m ≡ n + 1) ⊎ (m + 1 ≡ n))
one_apart g from c d n None a e f h k = h
one_apart g from c d n (Some m) a e f h k =
    let ne = differ g from c d n m a e f in
    let low = k m refl in
    elim (cases_lt n m) [
      | inl less ↦ inl (omega arith)
      | inr more ↦ elim (cases_eq n m) [ inl same ↦ absurd (ne same) | inr other ↦ inr (omega arith) ]
    ]

-- neighbours are at distances that differ by 1
pub distance_neighbours : (g : Floor) (from c d : Cell) (n : ℕ) → IsPassable g d → IsAdjacent c d → distance g from c ≡ Some n → IsSomeAnd (distance g from d) (λ m. (m ≡ n + 1) ⊎ (m + 1 ≡ n))
distance_neighbours g from c d n p a e =
    let h : IsDistance g from c (Some n) = subst (IsDistance g from c) e (distance_is g from c) in
    let at_c : IsPassable g c = subst (IsPassable g) h.1.walk.ends (h.1.walk.walk.passable (last_index h.0)) in
    one_apart g from c d n (distance g from d) a e refl (distance_falls g from c d n p (inr a) e)
    (λ m f. subst (λ (o : Option ℕ). IsSomeAnd o (λ k. k ≤ m + 1)) e (distance_falls g from d c m at_c (move_back c d (inr a)) f))
