-- what a path is at, and when two paths are free for ever
use Rattle.std.proofs.Common.{Bool, ◌≡◌, ℕ, ◌+◌, ◌-◌, ◌<◌, ◌≤◌, ◌∙◌, inl, inr, List, [], ◌∷◌, ◌++◌, length, get_or, min, refl, sym, ap, arith}
use Rattle.std.proofs.lemmas.Bool.{cases_lt}
use Rattle.std.proofs.lemmas.List.{length_push, get_or_push, get_or_append_left}
use Prim.Native.Nat.{suc}
use Rattle.wh_grid.specs.declared.cell.Cell.{Cell}
use Rattle.wh_path.specs.Paths.{at, end, last_index, advanced, IsFree, MeetAt}
use Rattle.wh_path.specs.Conflicts.{IsFreeBefore}

abbrev pub origin : Cell
origin = record { x = 0; y = 0 }

-- within the list it is the k-th cell
pub at-within : (p : List Cell) (k : ℕ) → k < length p → at p k ≡ get_or p k origin
unfolding at
at-within p k h = ap (λ i. get_or p i origin) (let e : min k (length p - 1) ≡ k = omega arith in e)

-- from the last index on it is at its end
pub at-beyond : (p : List Cell) (k : ℕ) → last_index p ≤ k → at p k ≡ end p
unfolding at
at-beyond p k h =
    ap (λ i. get_or p i origin) (let e : min k (length p - 1) ≡ min (length p - 1) (length p - 1) = omega arith in e)

-- two times past the end are alike
pub at-rests : (p : List Cell) (j k : ℕ) → last_index p ≤ j → last_index p ≤ k → at p j ≡ at p k
at-rests p j k f g = at-beyond p j f ∙ sym (at-beyond p k g)

-- the path of one cell is there at all times
pub at-one : (c : Cell) (k : ℕ) → at (c ∷ []) k ≡ c
unfolding at
at-one c k = ap (λ i. get_or (c ∷ []) i origin) (let e : min k (length (c ∷ []) - 1) ≡ 0 = omega arith in e)

-- one step later it is where it would have been at the next time
pub at-advanced : (p : List Cell) (k : ℕ) → at (advanced p) k ≡ at p (k + 1)
unfolding at
at-advanced [] k = refl
at-advanced (only ∷ []) k =
    let e : min k (length (only ∷ []) - 1) ≡ 0 = omega arith in
    let d : min (k + 1) (length (only ∷ []) - 1) ≡ 0 = omega arith in
    rw (e, d)
at-advanced (first ∷ next ∷ rest) k =
    let e : min (k + 1) (length (first ∷ next ∷ rest) - 1) ≡ suc (min k (length (next ∷ rest) - 1)) = omega arith in
    rw e

last-advanced : (p : List Cell) → last_index p ≤ last_index (advanced p) + 1
last-advanced [] = omega arith
last-advanced (only ∷ []) = omega arith
last-advanced (first ∷ next ∷ rest) = omega arith

pub end-advanced : (p : List Cell) → end (advanced p) ≡ end p
end-advanced p = at-advanced p (last_index (advanced p)) ∙ at-beyond p (last_index (advanced p) + 1) (last-advanced p)

pub length-advanced : (p : List Cell) → 1 ≤ length p → 1 ≤ length (advanced p)
length-advanced [] h = h
length-advanced (only ∷ []) h = h
length-advanced (first ∷ next ∷ rest) h = omega arith

-- with no steps left it is at its end
pub at-resting : (p : List Cell) (k : ℕ) → last_index p ≡ 0 → at p k ≡ end p
at-resting p k h = at-beyond p k (omega arith)

-- one more cell
pub at-old : (p : List Cell) (c : Cell) (k : ℕ) → k < length p → at (p ++ c ∷ []) k ≡ at p k
at-old p c k h =
    let size = length_push p c in
    at-within (p ++ c ∷ []) k (omega arith) ∙ get_or_append_left p (c ∷ []) origin k h ∙ sym (at-within p k h)

pub at-new : (p : List Cell) (c : Cell) (k : ℕ) → length p ≤ k → at (p ++ c ∷ []) k ≡ c
at-new p c k h =
    let size = length_push p c in
    at-rests (p ++ c ∷ []) k (length p) (omega arith) (omega arith) ∙ at-within (p ++ c ∷ []) (length p) (omega arith) ∙ get_or_push p c origin (length p) refl

-- free at each time before n, and at rest from n - 1 on, is free for ever
pub free_for_ever : (nofollow : Bool) (p q : List Cell) (n : ℕ) → last_index p < n → last_index q < n → IsFreeBefore nofollow p q n → IsFree nofollow p q
free_for_ever nofollow p q n hp hq f =
    let apart : (k : ℕ) → ¬ MeetAt p q k = λ k m.
    elim (cases_lt k n) [
      | inl b ↦ f.apart k b m
      | inr b ↦ f.apart (n - 1) (omega arith) (at-rests p (n - 1) k (omega arith) (omega arith) ∙ (m ∙ at-rests q k (n - 1) (omega arith) (omega arith)))
    ] in
    record {
      apart = apart;
      no_swap = λ k s.
          elim (cases_lt k n) [
            | inl b ↦ f.no_swap k b s
            | inr b ↦ apart k (s.0 ∙ at-rests q (k + 1) k (omega arith) (omega arith))
          ];
      no_follow = λ r k s.
          elim (cases_lt k n) [
            | inl b ↦ f.no_follow r k b s
            | inr b ↦ elim s [
              | inl e ↦ apart k (at-rests p k (k + 1) (omega arith) (omega arith) ∙ e)
              | inr e ↦ apart k (sym e ∙ at-rests q (k + 1) k (omega arith) (omega arith))
            ]
          ];
    }
