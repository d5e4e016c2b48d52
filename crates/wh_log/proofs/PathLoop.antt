-- Writing the cells of a path one after the other.
use Rattle.std.proofs.Common.{◌≡◌, ℕ, ◌<◌, ◌+◌, List, [], ◌∷◌, ◌++◌, length, take, map, min, refl, ap, ◌∙◌, sym, arith, append_assoc}
use Rattle.std.proofs.lemmas.List.{take_more, map-append, append-nil}
use Rattle.std.proofs.lemmas.Grind.{flat_map-append}
use Rattle.wh_grid.specs.declared.cell.Cell.{Cell}
use Rattle.wh_path.specs.Paths.{at, last_index}
use Rattle.wh_log.specs.Spelling.{cell_word}
use Rattle.wh_log.specs.Spaced.{spaced}

next_cell : (path : List Cell) (k : ℕ) → k < length path → take (k + 1) path ≡ take k path ++ at path k ∷ []
unfolding at
next_cell path k below =
    let same : min k (last_index path) ≡ k = omega arith in
    rw same (take_more path k (record { x = 0; y = 0 }) below)

pub cell_pushed : (out before new : List ℕ) (path : List Cell) (k : ℕ) (cell : Cell) → k < length path → before ≡ out ++ spaced (map cell_word (take k path)) → cell ≡ at path k
    → new ≡ before ++ 32 ∷ cell_word cell → new ≡ out ++ spaced (map cell_word (take (k + 1) path))
cell_pushed out before new path k cell below so_far is e =
    let more : spaced (map cell_word (take (k + 1) path)) ≡ spaced (map cell_word (take k path)) ++ 32 ∷ cell_word cell =
    rw (next_cell path k below, sym is) (ap spaced (map-append cell_word (take k path) (cell ∷ [])) ∙ flat_map-append (λ word. 32 ∷ word) (map cell_word (take k path)) (cell_word cell ∷ []) ∙ last) in
    rw (e, so_far, more) (append_assoc out (spaced (map cell_word (take k path))) (32 ∷ cell_word cell))
  where
    last : spaced (map cell_word (take k path)) ++ ((32 ∷ cell_word cell) ++ []) ≡ spaced (map cell_word (take k path)) ++ 32 ∷ cell_word cell
    last = simp append-nil refl
