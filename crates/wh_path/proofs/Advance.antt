use Rattle.std.proofs.Common.{◌≡◌, ℕ, ◌+◌, ◌<◌, ◌≤◌, List, [], ◌∷◌, length, drop, refl, arith}
use Prim.Native.Nat.{zero, suc}
use Rattle.wh_grid.specs.declared.cell.Cell.{Cell}
use Rattle.wh_path.specs.Paths.{advanced}

-- one cell less from the front is one step later
pub drop-advanced : (xs : List Cell) (n : ℕ) → suc n < length xs → drop (suc n) xs ≡ advanced (drop n xs)
drop-advanced [] n h = absurd (omega arith)
drop-advanced (x ∷ []) n h = absurd (omega arith)
drop-advanced (x ∷ y ∷ xs) zero h = refl
drop-advanced (x ∷ y ∷ xs) (suc n) h = let h' : suc n < length (y ∷ xs) = omega arith in drop-advanced (y ∷ xs) n h'

-- the last cell stays
pub drop-rests : (xs : List Cell) (n : ℕ) → n < length xs → length xs ≤ n + 1 → drop n xs ≡ advanced (drop n xs)
drop-rests [] n h k = absurd (omega arith)
drop-rests (x ∷ []) zero h k = refl
drop-rests (x ∷ []) (suc n) h k = absurd (omega arith)
drop-rests (x ∷ y ∷ xs) zero h k = absurd (omega arith)
drop-rests (x ∷ y ∷ xs) (suc n) h k =
    let h' : n < length (y ∷ xs) = omega arith in
    let k' : length (y ∷ xs) ≤ n + 1 = omega arith in
    drop-rests (y ∷ xs) n h' k'
