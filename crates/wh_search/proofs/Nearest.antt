-- the distance to the nearest of the ends, as far as its field is filled, is an estimate
use Rattle.std.proofs.Common.{◌≡◌, ℕ, ◌+◌, ◌≤◌, List, [], ◌∷◌, refl, ap, sym, subst, arith}
use Rattle.wh_grid.specs.declared.cell.Cell.{Cell}
use Rattle.wh_grid.specs.Grids.{Floor, IsPassable, IsMove}
use Rattle.wh_field.specs.Distances.{distance}
use Rattle.wh_field.specs.Fields.{Sources}
use Rattle.wh_field.specs.Growing.{capped}
use Rattle.wh_field.specs.Nearest.{nearest_capped}
use Rattle.wh_field.proofs.DistanceLaws.{distance_start}
use Rattle.wh_field.proofs.Nearby.{nearest_below}
use Rattle.wh_search.specs.Guides.{nearest_by}
use Rattle.wh_search.specs.States.{IsEstimate}
use Rattle.wh_search.proofs.SightedStops.{capped_falls}

nearest_falls : (g : Floor) (cells : List Cell) (level : ℕ) (r c : Cell) → IsPassable g r → IsMove r c → nearest_capped g cells level r ≤ nearest_capped g cells level c + 1
nearest_falls g [] level r c p m = omega arith
nearest_falls g (goal ∷ cells) level r c p m = omega (arith, capped_falls g goal r c level (distance g goal c) refl p m, nearest_falls g cells level r c p m)

nearest_estimates : (g : Floor) (ends : List Cell) (level : ℕ) → IsEstimate g [] ends (λ l c. nearest_capped g ends level c)
nearest_estimates g ends level =
    record {
      at_end = λ c h inside.
          let e = ap (λ o. capped o level) (distance_start g c inside) in
          omega (arith, nearest_below g ends level c c h);
      falls = λ l r c few p q m. nearest_falls g ends level r c p m;
      visits = λ l h inside. absurd (omega arith);
    }

-- whatever level its field is filled to
pub field_estimates : (g : Floor) (ends : List Cell) (field : Sources) → field.grid ≡ g → field.cells ≡ ends → IsEstimate g [] ends (λ l c. nearest_by field c)
field_estimates g ends field on of =
    subst (λ (x : List Cell). IsEstimate g [] ends (λ l c. nearest_capped field.grid x field.level c)) (sym of)
    (subst (λ (x : Floor). IsEstimate g [] ends (λ l c. nearest_capped x ends field.level c)) (sym on) (nearest_estimates g ends field.level))
