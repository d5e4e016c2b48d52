-- walks of one cell, and with one cell more
use Rattle.std.proofs.Common.{◌≡◌, ℕ, ◌+◌, ◌-◌, ◌<◌, inl, inr, ◌∙◌, List, [], ◌∷◌, ◌++◌, length, reverse, get_or, sym, ap, subst, arith}
use Rattle.std.proofs.lemmas.Bool.{cases_lt}
use Rattle.std.proofs.lemmas.List.{length_push, length-reverse, get_or-reverse}
use Rattle.wh_grid.specs.declared.cell.Cell.{Cell}
use Rattle.wh_grid.specs.Grids.{Floor, IsPassable, IsMove}
use Rattle.wh_path.specs.Paths.{at, last_index}
use Rattle.wh_path.specs.Walks.{IsWalkBetween}
use Rattle.wh_path.proofs.AtLemmas.{origin, at-within, at-beyond, at-rests, at-one, at-old, at-new}

pub walk_one : (g : Floor) (c : Cell) → IsPassable g c → IsWalkBetween g c c (c ∷ [])
walk_one g c a =
    record {
      walk = record { non_empty = omega arith; passable = λ k. subst (IsPassable g) (sym (at-one c k)) a; moves = λ k. inl (at-one c k ∙ sym (at-one c (k + 1))) };
      starts = at-one c 0;
      ends = at-one c 0;
    }

-- one step more
pub walk_push : (g : Floor) (from b c : Cell) (p : List Cell) → IsWalkBetween g from b p → IsPassable g c → IsMove b c → IsWalkBetween g from c (p ++ c ∷ [])
walk_push g from b c p h a m =
    let some = h.walk.non_empty in
    let size = length_push p c in
    record {
      walk = record {
        non_empty = omega arith;
        passable = λ k. elim (cases_lt k (length p)) [
          | inl less ↦ subst (IsPassable g) (sym (at-old p c k less)) (h.walk.passable k)
          | inr more ↦ subst (IsPassable g) (sym (at-new p c k more)) a
        ];
        moves = λ k. elim (cases_lt (k + 1) (length p)) [
          | inl less ↦ (let P : Cell → Type 0 = λ x. IsMove x (at (p ++ c ∷ []) (k + 1)) in let Q : Cell → Type 0 = λ x. IsMove (at p k) x in
              subst P (sym (at-old p c k (omega arith))) (subst Q (sym (at-old p c (k + 1) less)) (h.walk.moves k)))
          | inr more ↦ (let new : at (p ++ c ∷ []) (k + 1) ≡ c = at-new p c (k + 1) (omega arith) in
              elim (cases_lt k (length p)) [
                | inl last ↦ (let old : at (p ++ c ∷ []) k ≡ b = at-old p c k last ∙ at-beyond p k (omega arith) ∙ h.ends in
                    let P : Cell → Type 0 = λ x. IsMove x (at (p ++ c ∷ []) (k + 1)) in let Q : Cell → Type 0 = λ x. IsMove b x in
                    subst P (sym old) (subst Q (sym new) m))
                | inr past ↦ inl (at-new p c k past ∙ sym new)
              ])
        ];
      };
      starts = at-old p c 0 some ∙ h.starts;
      ends = at-new p c (last_index (p ++ c ∷ [])) (omega arith);
    }

-- the other way round
pub at-reverse : (p : List Cell) (k : ℕ) → 0 < length p → at (reverse p) k ≡ at p (last_index p - k)
at-reverse p k some =
    let size = length-reverse p in
    let within : (i : ℕ) → i < length p → at (reverse p) i ≡ at p (last_index p - i) = λ i h.
    at-within (reverse p) i (omega arith) ∙ get_or-reverse p i origin h ∙ ap (λ x. get_or p x origin) (let e : length p - 1 - i ≡ last_index p - i = omega arith in e) ∙ sym (at-within p (last_index p - i) (omega arith)) in
    elim (cases_lt k (length p)) [
      | inl h ↦ within k h
      | inr h ↦ at-rests (reverse p) k (last_index p) (omega arith) (omega arith) ∙ within (last_index p) (omega arith) ∙ ap (at p) (let e : last_index p - last_index p ≡ last_index p - k = omega arith in e)
    ]

pub move_back : (c d : Cell) → IsMove c d → IsMove d c
move_back c d (inl e) = inl (sym e)
move_back c d (inr (inl (e, inl f))) = inr (inl (sym e, inr f))
move_back c d (inr (inl (e, inr f))) = inr (inl (sym e, inl f))
move_back c d (inr (inr (e, inl f))) = inr (inr (sym e, inr f))
move_back c d (inr (inr (e, inr f))) = inr (inr (sym e, inl f))

pub walk_reverse : (g : Floor) (from to : Cell) (p : List Cell) → IsWalkBetween g from to p → IsWalkBetween g to from (reverse p)
walk_reverse g from to p h =
    let some = h.walk.non_empty in
    let size = length-reverse p in
    record {
      walk = record {
        non_empty = omega arith;
        passable = λ k. subst (IsPassable g) (sym (at-reverse p k some)) (h.walk.passable (last_index p - k));
        moves = λ k. let P : Cell → Type 0 = λ x. IsMove x (at (reverse p) (k + 1)) in let Q : Cell → Type 0 = λ x. IsMove (at p (last_index p - k)) x in
            subst P (sym (at-reverse p k some)) (subst Q (sym (at-reverse p (k + 1) some)) (elim (cases_lt k (last_index p)) [
              | inl less ↦ (let j = last_index p - (k + 1) in
                  let R : ℕ → Type 0 = λ i. IsMove (at p i) (at p j) in
                  subst R (let e : j + 1 ≡ last_index p - k = omega arith in e) (move_back (at p j) (at p (j + 1)) (h.walk.moves j)))
              | inr past ↦ inl (ap (at p) (let e : last_index p - k ≡ last_index p - (k + 1) = omega arith in e))
            ]));
      };
      starts = at-reverse p 0 some ∙ ap (at p) (let e : last_index p - 0 ≡ last_index p = omega arith in e) ∙ h.ends;
      ends = at-reverse p (last_index (reverse p)) some ∙ ap (at p) (let e : last_index p - last_index (reverse p) ≡ 0 = omega arith in e) ∙ h.starts;
    }
