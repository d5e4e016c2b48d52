-- a path that goes on along another
use Rattle.std.proofs.Common.{◌≡◌, ℕ, ◌+◌, ◌-◌, ◌≤◌, ◌∙◌, inl, inr, List, [], ◌∷◌, ◌++◌, length, get_or, drop, refl, sym, ap, subst, arith}
use Prim.Native.Nat.{zero, suc}
use Rattle.std.proofs.lemmas.Bool.{cases_lt}
use Rattle.std.proofs.lemmas.List.{length-append, get_or_append_left, get_or-append_right}
use Rattle.wh_grid.specs.declared.cell.Cell.{Cell}
use Rattle.wh_grid.specs.Grids.{Floor, IsPassable}
use Rattle.wh_path.specs.Paths.{at, end, last_index, IsWalk}
use Rattle.wh_path.proofs.AtLemmas.{at-within, at-beyond, at-rests, origin}

-- the second is not empty, and begins where the first ends
pub record Meets (p r : List Cell) : Type 0 where
  pub first_some : 1 ≤ length p
  pub second_some : 1 ≤ length r
  pub meets : end p ≡ at r 0

abbrev pub joined : List Cell → List Cell → List Cell
joined p r = p ++ drop 1 r

length-rest : (r : List Cell) → 1 ≤ length r → length (drop 1 r) + 1 ≡ length r
length-rest [] h = absurd (omega arith)
length-rest (c ∷ r) h = omega arith

get_or-rest : (r : List Cell) (k : ℕ) → get_or (drop 1 r) k origin ≡ get_or r (suc k) origin
get_or-rest [] k = refl
get_or-rest (c ∷ r) k = refl

pub last-joined : (p r : List Cell) → Meets p r → last_index (joined p r) ≡ last_index p + last_index r
last-joined p r m =
    let size = length-append p (drop 1 r) in
    let rest = length-rest r m.second_some in
    let a = m.first_some in
    let b = m.second_some in
    omega arith

pub some-joined : (p r : List Cell) → Meets p r → 1 ≤ length (joined p r)
some-joined p r m = (let size = length-append p (drop 1 r) in let a = m.first_some in omega arith)

-- up to the end of the first
pub at-first : (p r : List Cell) (k : ℕ) → Meets p r → k ≤ last_index p → at (joined p r) k ≡ at p k
at-first p r k m le =
    let size = length-append p (drop 1 r) in
    let a = m.first_some in
    at-within (joined p r) k (omega arith) ∙ get_or_append_left p (drop 1 r) origin k (omega arith) ∙ sym (at-within p k (omega arith))

at-second_in : (p r : List Cell) (k : ℕ) → Meets p r → k ≤ last_index r → at (joined p r) (last_index p + k) ≡ at r k
at-second_in p r zero m le =
    let e : last_index p + 0 ≡ last_index p = omega arith in
    ap (λ i. at (joined p r) i) e ∙ at-first p r (last_index p) m (omega arith) ∙ m.meets
at-second_in p r (suc k) m le =
    let a = m.first_some in
    let b = m.second_some in
    let size = length-append p (drop 1 r) in
    let rest = length-rest r b in
    let e : last_index p + suc k ≡ length p + k = omega arith in
    let d : length p + k - length p ≡ k = omega arith in
    ap (λ i. at (joined p r) i) e ∙ at-within (joined p r) (length p + k) (omega arith)
    ∙ get_or-append_right p (drop 1 r) (length p) (length p + k) origin refl (omega arith) ∙ ap (λ i. get_or (drop 1 r) i origin) d
    ∙ get_or-rest r k ∙ sym (at-within r (suc k) (omega arith))

-- and from then on
pub at-second : (p r : List Cell) (k : ℕ) → Meets p r → at (joined p r) (last_index p + k) ≡ at r k
at-second p r k m = elim (cases_lt (last_index r) k) [
  | inl past ↦
      let size = last-joined p r m in
      at-rests (joined p r) (last_index p + k) (last_index p + last_index r) (omega arith) (omega arith)
      ∙ at-second_in p r (last_index r) m (omega arith) ∙ sym (at-beyond r k (omega arith))
  | inr within ↦ at-second_in p r k m within
]

pub at-later : (p r : List Cell) (k : ℕ) → Meets p r → last_index p ≤ k → at (joined p r) k ≡ at r (k - last_index p)
at-later p r k m le =
    let e : k ≡ last_index p + (k - last_index p) = omega arith in
    ap (λ i. at (joined p r) i) e ∙ at-second p r (k - last_index p) m

-- what holds of each cell of both
pub all-joined : (P : Cell → Type 0) (p r : List Cell) → Meets p r → ((k : ℕ) → P (at p k)) → ((k : ℕ) → P (at r k)) → (k : ℕ) → P (at (joined p r) k)
all-joined P p r m first second k = elim (cases_lt k (last_index p)) [
  | inl before ↦ subst P (sym (at-first p r k m (omega arith))) (first k)
  | inr after ↦ subst P (sym (at-later p r k m after)) (second (k - last_index p))
]

pub walk-joined : (g : Floor) (p r : List Cell) → Meets p r → IsWalk g p → IsWalk g r → IsWalk g (joined p r)
walk-joined g p r m first second = record {
  non_empty = some-joined p r m;
  passable = all-joined (IsPassable g) p r m first.passable second.passable;
  moves = λ k. elim (cases_lt k (last_index p)) [
    | inl before ↦ rw (at-first p r k m (omega arith), at-first p r (k + 1) m (omega arith)) (first.moves k)
    | inr after ↦
        let e : k + 1 - last_index p ≡ k - last_index p + 1 = omega arith in
        rw (at-later p r k m after, at-later p r (k + 1) m (omega arith), e) (second.moves (k - last_index p))
  ];
}
