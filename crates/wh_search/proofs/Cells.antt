-- lists of marks: growing one, reading one at a cell, counting
use Rattle.std.proofs.Common.{◌≡◌, ℕ, ◌+◌, ◌-◌, ◌<◌, ◌≤◌, inl, inr, List, [], ◌∷◌, length, get_or, count_by, Bool, true, false, refl, sym, suc, zero, min, lit<, Contains, arith}
use Rattle.std.proofs.lemmas.List.Recursion.{is_count_by}
use Rattle.wh_grid.specs.declared.cell.Cell.{Cell}
use Rattle.wh_grid.specs.Grids.{IsMove}
use Rattle.wh_grid.proofs.Cells.{same_cell}
use Rattle.wh_search.specs.Steps.{AddsNone, marked_count}

-- past the end nothing is marked
pub past_end : (xs : List Bool) (i : ℕ) → length xs ≤ i → get_or xs i false ≡ true → ⊥
past_end [] i h e = cc
past_end (x ∷ xs) zero h e = absurd (omega arith)
past_end (x ∷ xs) (suc i) h e = past_end xs i (omega arith) e

-- of two lists of marks, where each mark of the first is one of the second, the second has no fewer
pub count-subset : (xs ys : List Bool) → AddsNone ys xs → marked_count xs ≤ marked_count ys
count-subset [] ys h = omega arith
count-subset (true ∷ xs) [] h = let e : false ≡ true = h 0 refl in cc
count-subset (false ∷ xs) [] h = count-subset xs [] (λ i e. h (suc i) e)
count-subset (true ∷ xs) (true ∷ ys) h = omega (arith, count-subset xs ys (λ i e. h (suc i) e))
count-subset (true ∷ xs) (false ∷ ys) h = let e : false ≡ true = h 0 refl in cc
count-subset (false ∷ xs) (true ∷ ys) h =
    omega (arith, count-subset xs ys (λ i e. h (suc i) e))
count-subset (false ∷ xs) (false ∷ ys) h = count-subset xs ys (λ i e. h (suc i) e)

-- and where the second adds some, it has more
pub count-more : (xs ys : List Bool) → AddsNone ys xs → (i : ℕ) → get_or ys i false ≡ true → get_or xs i false ≡ false → marked_count xs < marked_count ys
count-more xs [] h i e f = cc
count-more [] (true ∷ ys) h i e f =
    omega arith
count-more [] (false ∷ ys) h zero e f = cc
count-more [] (false ∷ ys) h (suc i) e f = count-more [] ys (λ j m. absurd (let e : false ≡ true = m in cc)) i e refl
count-more (true ∷ xs) (true ∷ ys) h zero e f = cc
count-more (true ∷ xs) (true ∷ ys) h (suc i) e f = omega (arith, count-more xs ys (λ j m. h (suc j) m) i e f)
count-more (true ∷ xs) (false ∷ ys) h i e f = let e : false ≡ true = h 0 refl in cc
count-more (false ∷ xs) (true ∷ ys) h zero e f =
    omega (arith, count-subset xs ys (λ j m. h (suc j) m))
count-more (false ∷ xs) (true ∷ ys) h (suc i) e f =
    omega (arith, count-more xs ys (λ j m. h (suc j) m) i e f)
count-more (false ∷ xs) (false ∷ ys) h zero e f = cc
count-more (false ∷ xs) (false ∷ ys) h (suc i) e f = count-more xs ys (λ j m. h (suc j) m) i e f

-- each cell that is one move away is in the list
pub moves_complete : (to r : Cell) (a b c d : ℕ) → a ≡ to.x - 1 → b ≡ min (to.x + 1) 65535 → c ≡ to.y - 1 → d ≡ min (to.y + 1) 65535 → r.x < 65536 → r.y < 65536 → IsMove r to
    → Contains (to ∷ record { x = a; y = to.y } ∷ record { x = b; y = to.y } ∷ record { x = to.x; y = c } ∷ record { x = to.x; y = d } ∷ []) r
moves_complete to r a b c d ea eb ec ed hx hy (inl e) = (0, lit< tt, sym e)
moves_complete to r a b c d ea eb ec ed hx hy (inr (inl (e, inl f))) = (1, lit< tt, same_cell _ r (omega arith) (sym e))
moves_complete to r a b c d ea eb ec ed hx hy (inr (inl (e, inr f))) = (2, lit< tt, same_cell _ r (omega arith) (sym e))
moves_complete to r a b c d ea eb ec ed hx hy (inr (inr (e, inl f))) = (3, lit< tt, same_cell _ r (sym e) (omega arith))
moves_complete to r a b c d ea eb ec ed hx hy (inr (inr (e, inr f))) = (4, lit< tt, same_cell _ r (sym e) (omega arith))

-- counted by std's word
pub marked_count-is : (xs : List Bool) → marked_count xs ≡ count_by (λ b. b) xs
marked_count-is xs = is_count_by marked_count (λ b. b) refl (λ x ys. refl) xs
