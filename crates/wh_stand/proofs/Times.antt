-- what holds of a path up to its end holds for ever; reads of paths
use Rattle.std.proofs.Common.{◌≡◌, ℕ, ◌+◌, ◌<◌, ◌∙◌, inl, inr, List, [], length, get_or, subst, arith}
use Rattle.std.proofs.lemmas.Bool.{cases_lt}
use Rattle.std.proofs.lemmas.List.{get_or_default}
use Rattle.wh_grid.specs.declared.cell.Cell.{Cell}
use Rattle.wh_grid.specs.Grids.{IsMove}
use Rattle.wh_path.specs.Paths.{at, last_index, path_of}
use Rattle.wh_path.proofs.AtLemmas.{at-rests}

pub at-all_times : (P : Cell → Type 0) (p : List Cell) (n : ℕ) → last_index p < n → ((k : ℕ) → k < n → P (at p k)) → (k : ℕ) → P (at p k)
at-all_times P p n past before k = elim (cases_lt k n) [
  | inl l ↦ before k l
  | inr l ↦ subst P (at-rests p (last_index p) k (omega arith) (omega arith)) (before (last_index p) past)
]

pub moves-all_times : (p : List Cell) (n : ℕ) → last_index p < n → ((k : ℕ) → k < n → IsMove (at p k) (at p (k + 1))) → (k : ℕ) → IsMove (at p k) (at p (k + 1))
moves-all_times p n past before k = elim (cases_lt k n) [
  | inl l ↦ before k l
  | inr l ↦ inl (at-rests p k (k + 1) (omega arith) (omega arith))
]

-- what indexing gave is the path of the agent
pub path-read : (paths : List (List Cell)) (i : ℕ) (p : List Cell) → i < length paths → p ≡ get_or paths i p → p ≡ path_of paths i
path-read paths i p h e = e ∙ get_or_default paths i p [] h
