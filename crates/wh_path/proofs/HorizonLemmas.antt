-- the greatest number of steps left of lists of paths in two parts
use Rattle.std.proofs.Common.{◌≡◌, ℕ, ◌+◌, ◌<◌, List, [], ◌∷◌, ◌++◌, length, get_or, drop, max, sym, ap, ◌∙◌, arith}
use Rattle.std.proofs.lemmas.List.{at_drop_more}
use Rattle.wh_grid.specs.declared.cell.Cell.{Cell}
use Rattle.wh_path.specs.Paths.{last_index, horizon}

pub horizon-append : (xs ys : List (List Cell)) → horizon (xs ++ ys) ≡ max (horizon xs) (horizon ys)
horizon-append [] ys = omega arith
horizon-append (x ∷ xs) ys = omega (arith, horizon-append xs ys)

-- the horizon of what is left is that of the next path or of those after it
pub horizon-drop : (xs : List (List Cell)) (i : ℕ) (q : List Cell) → i < length xs → q ≡ get_or xs i q → horizon (drop i xs) ≡ max (last_index q) (horizon (drop (i + 1) xs))
horizon-drop xs i q h e = at_drop_more horizon xs i q h ∙ ap (λ p. max (last_index p) (horizon (drop (i + 1) xs))) (sym e)
