-- when two cells are one
use Rattle.std.proofs.Common.{◌≡◌, true, ap, eq-eqb, arith}
use Rattle.std.specs.Bool.{Decides}
use Rattle.std.specs.Cmp.{IsEquivalence, decided}
use Rattle.std.specs.Cmp.Derive.{both_true}
use Rattle.std.proofs.lemmas.Bool.Decides.{nat_tests}
use Rattle.wh_grid.specs.declared.cell.Cell.{Cell}
use Rattle.wh_grid.specs.Cells.{is_cell}

-- cells with the same coordinates are one
pub same_cell : (c d : Cell) → c.x ≡ d.x → c.y ≡ d.y → c ≡ d
same_cell c d ex ey = λ i. record { x = ex i; y = ey i }

-- where the test says so, they are one
pub is_cell-same : (c d : Cell) → is_cell c d ≡ true → c ≡ d
is_cell-same c d e =
    let x : c.x ≡ d.x = grind (arith, nat_tests) in
    let y : c.y ≡ d.y = grind (arith, nat_tests) in
    same_cell c d x y

pub is_cell-one : (c d : Cell) → c ≡ d → is_cell c d ≡ true
is_cell-one c d e = both_true (eq-eqb c.x d.x (ap (λ (b : Cell). b.x) e)) (eq-eqb c.y d.y (ap (λ (b : Cell). b.y) e))

pub is_cell_decides : (c d : Cell) → Decides (is_cell c d) (c ≡ d)
is_cell_decides c d = (is_cell-same c d, is_cell-one c d)

pub is_cell_equiv : IsEquivalence is_cell
is_cell_equiv = decided is_cell is_cell_decides

pub is_cell-itself : (c : Cell) → is_cell c c ≡ true
is_cell-itself c = is_cell_equiv.refl c
