-- A grid has the floor that it has.
use Rattle.std.proofs.Common.{◌≡◌, Bool, true, List, [], ◌∷◌, refl, sym, subst, eq-eqb}
use Rattle.std.specs.Cmp.Lexicographic.{pointwise}
use Rattle.std.proofs.Math.Bool.{beq}
use Rattle.wh_grid.specs.Grids.{Floor, same_floor}

same_cells : (cells : List Bool) → pointwise beq cells cells ≡ true
same_cells [] = refl
same_cells (Bool.true ∷ cells) = same_cells cells
same_cells (Bool.false ∷ cells) = same_cells cells

pub same_self : (g : Floor) → same_floor g g ≡ true
same_self g = rw (eq-eqb g.width g.width refl, eq-eqb g.height g.height refl, same_cells g.walkable)

-- a grid that is this one has its floor
pub same_at : (g h : Floor) → g ≡ h → same_floor g h ≡ true
same_at g h e = subst (λ (f : Floor). same_floor f h ≡ true) (sym e) (same_self h)
