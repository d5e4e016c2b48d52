-- the places beside a cell
use Rattle.std.proofs.Common.{◌≡◌, ℕ, ◌<◌, ◌≤◌, ◌∙◌, List, [], ◌∷◌, subst, sym, arith}
use Rattle.wh_grid.specs.declared.cell.Cell.{Cell}
use Rattle.wh_grid.specs.Grids.{Floor}
use Rattle.wh_field.specs.Tables.{value, blocked}
use Rattle.wh_field.specs.Places.{place, IsSurveyed}
use Rattle.wh_field.proofs.Places.{place_one}

-- what has a distance is not the place that closes a row
pub surveyed_in : (g : Floor) (source to : Cell) (t : List ℕ) (n : ℕ) → IsSurveyed g [] (source ∷ []) t → to.x ≤ g.width → value t (place g to) ≡ n → n < blocked → to.x < g.width
surveyed_in g source to t n s w e b =
    let a = s.ground.allowed (place g to) (λ z. let f = sym e ∙ z in absurd (omega arith)) in
    let v = a.allowed.passable.in_width in
    subst (λ (c : Cell). c.x < g.width) (place_one g a.cell to (omega arith) w a.here) v
