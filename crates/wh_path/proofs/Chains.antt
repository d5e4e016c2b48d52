-- walks from cell to cell
use Rattle.std.proofs.Common.{◌≡◌, ◌≢◌, ℕ, ◌+◌, ◌<◌, ◌≤◌, ◌∙◌, inl, inr, List, [], ◌∷◌, Bool, length, get_or, sym, subst, arith}
use Prim.Native.Nat.{zero, suc}
use Rattle.std.specs.Prelude.{All}
use Rattle.std.proofs.lemmas.Bool.{cases_lt}
use Rattle.wh_grid.specs.declared.cell.Cell.{Cell}
use Rattle.wh_grid.specs.Grids.{Floor, IsPassable, IsMove}
use Rattle.wh_path.specs.Paths.{at, last_index, IsWalk, IsFree}
use Rattle.wh_path.proofs.AtLemmas.{at-within, at-beyond, at-one, origin}

-- each cell is passable, and each next one is the one before or beside it
abbrev pub Chain : Floor → List Cell → Type 0
Chain g [] = ⊥
Chain g (c ∷ []) = IsPassable g c
Chain g (c ∷ d ∷ rest) = IsPassable g c × IsMove c d × Chain g (d ∷ rest)

-- what holds of each cell of a list that is not empty holds of the path at all times
pub all-at : (P : Cell → Type 0) (p : List Cell) → 1 ≤ length p → All P p → (k : ℕ) → P (at p k)
all-at P p some all k = elim (cases_lt k (length p)) [
  | inl l ↦ subst P (sym (at-within p k l)) (all k origin l)
  | inr l ↦
      let at_end : at p k ≡ get_or p (last_index p) origin = at-beyond p k (omega arith) ∙ at-within p (last_index p) (omega arith) in
      subst P (sym at_end) (all (last_index p) origin (omega arith))
]

chain-some : (g : Floor) (p : List Cell) → Chain g p → 1 ≤ length p
chain-some g [] chain = absurd chain
chain-some g (c ∷ p) chain = omega arith

chain-passable : (g : Floor) (p : List Cell) → Chain g p → All (λ c. IsPassable g c) p
chain-passable g [] chain k d h = absurd chain
chain-passable g (c ∷ []) chain zero d h = chain
chain-passable g (c ∷ []) chain (suc k) d h = absurd (omega arith)
chain-passable g (c ∷ e ∷ rest) chain zero d h = chain.0
chain-passable g (c ∷ e ∷ rest) chain (suc k) d h = chain-passable g (e ∷ rest) chain.2 k d (omega arith)

chain-moves : (g : Floor) (p : List Cell) → Chain g p → (k : ℕ) → k + 1 < length p → IsMove (get_or p k origin) (get_or p (k + 1) origin)
chain-moves g [] chain k h = absurd chain
chain-moves g (c ∷ []) chain k h = absurd (omega arith)
chain-moves g (c ∷ e ∷ rest) chain zero h = chain.1
chain-moves g (c ∷ e ∷ rest) chain (suc k) h =
    let s : suc k + 1 ≡ suc (k + 1) = omega arith in
    subst (λ j. IsMove (get_or (e ∷ rest) k origin) (get_or (c ∷ e ∷ rest) j origin)) (sym s) (chain-moves g (e ∷ rest) chain.2 k (omega arith))

pub chain-walk : (g : Floor) (p : List Cell) → Chain g p → IsWalk g p
chain-walk g p chain =
    let some = chain-some g p chain in
    record {
      non_empty = some;
      passable = all-at (λ c. IsPassable g c) p some (chain-passable g p chain);
      moves = λ k. elim (cases_lt (k + 1) (length p)) [
        | inl l ↦ rw (at-within p k (omega arith), at-within p (k + 1) l) (chain-moves g p chain k l)
        | inr l ↦ inl (at-beyond p k (omega arith) ∙ sym (at-beyond p (k + 1) (omega arith)))
      ];
    }

-- a path that is never at the cell where another stays is free of it
pub free-beside : (nofollow : Bool) (p : List Cell) (c : Cell) → ((k : ℕ) → at p k ≢ c) → IsFree nofollow p (c ∷ [])
free-beside nofollow p c never = record {
  apart = λ k e. never k (e ∙ at-one c k);
  no_swap = λ k s. never k (s.0 ∙ at-one c (k + 1));
  no_follow = λ rule k f. elim f [
    | inl e ↦ never (k + 1) (e ∙ at-one c k)
    | inr e ↦ never k (sym e ∙ at-one c (k + 1))
  ];
}
