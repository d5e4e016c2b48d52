-- fields over other grids, on which no fewer cells may be walked on, give an estimate too
use Rattle.std.proofs.Common.{◌≡◌, ℕ, ◌+◌, ◌-◌, ◌≤◌, ◌∙◌, List, length, take, drop, get_or, Option, Some, None, Contains, min, refl, sym, ap, subst, arith}
use Rattle.wh_grid.specs.declared.cell.Cell.{Cell}
use Rattle.wh_grid.specs.Grids.{Floor, IsPassable, IsMove}
use Rattle.wh_path.specs.Paths.{cell_at}
use Rattle.wh_field.specs.Distances.{distance}
use Rattle.wh_field.specs.Growing.{capped}
use Rattle.wh_field.specs.declared.sight.Sight.{Sight}
use Rattle.wh_field.proofs.DistanceLaws.{distance_start}
use Rattle.wh_search.specs.Sights.{IsSightAt, AreSightsOf, by_sight, sights_estimate, IsOnwardBySights}
use Rattle.wh_search.specs.States.{IsEstimate}
use Rattle.wh_search.proofs.SightedStops.{capped_falls}
use Rattle.wh_search.proofs.Stops.{via_stop, via_size, last_only, one_only}
use Rattle.wh_intervals.specs.Tasks.{IsSightOver, AreSightsOver}

sight_over : (g : Floor) (stop : Cell) (o : Option Sight) → IsSightAt g o stop → IsSightOver g o stop
sight_over g stop None h = tt
sight_over g stop (Some s) h = record { more = λ c p. subst (λ (x : Floor). IsPassable x c) (sym h.0) p; source = h.1 }

pub sights_over : (g : Floor) (stops : List Cell) (sights : List (Option Sight)) → AreSightsOf g stops sights → AreSightsOver g stops sights
sights_over g stops sights h = record { size = h.size; each = λ l b. sight_over g (cell_at stops l) (get_or sights l None) (h.each l b) }

sight_falls : (g : Floor) (goal r c : Cell) (k : ℕ) (o : Option Sight) → IsSightOver g o goal → IsPassable g r → IsMove r c → by_sight o k r ≤ by_sight o k c + 1
sight_falls g goal r c k None h p m = omega arith
sight_falls g goal r c k (Some s) h p m =
    let falls = capped_falls s.field.now.grid s.field.now.cell r c s.level (distance s.field.now.grid s.field.now.cell c) refl (h.more r p) m in
    omega arith

-- at the stop itself it is no more than what is further on
sight_there : (g : Floor) (goal : Cell) (k : ℕ) (o : Option Sight) → IsSightOver g o goal → IsPassable g goal → by_sight o k goal ≤ k
sight_there g goal k None h p = omega arith
sight_there g goal k (Some s) h p =
    let zero : capped (distance s.field.now.grid goal goal) s.level ≡ 0 = ap (λ o. capped o s.level) (distance_start s.field.now.grid goal (h.more goal p)) ∙ (let z : min 0 (s.level + 1) ≡ 0 = omega arith in z) in
    let at_cell : capped (distance s.field.now.grid s.field.now.cell goal) s.level ≡ 0 = ap (λ (x : Cell). capped (distance s.field.now.grid x goal) s.level) h.source ∙ zero in
    omega arith

pub estimates_over : (g : Floor) (stops via ends : List Cell) (sights : List (Option Sight)) (onward : List ℕ) → 2 ≤ length stops → via ≡ take (length stops - 1) stops → ends ≡ drop (length stops - 1) stops
    → AreSightsOver g stops sights → IsOnwardBySights sights stops onward → IsEstimate g via ends (sights_estimate sights onward)
estimates_over g stops via ends sights onward many v e f o =
    let n = length stops - 1 in
    let size : length via ≡ n = ap length v ∙ via_size stops in
    record {
      at_end = λ c b inside.
          let is : cell_at stops n ≡ c = one_only (cell_at stops n) c (subst (λ (w : List Cell). Contains w c) (e ∙ last_only stops n (omega arith)) b) in
          let goes : cell_at stops (length via) ≡ c = ap (cell_at stops) size ∙ is in
          let zero_on = o.last (length via) (omega arith) in
          let there = sight_there g (cell_at stops (length via)) (get_or onward (length via) 0) (get_or sights (length via) None) (f.each (length via) (omega arith)) (subst (IsPassable g) (sym goes) inside) in
          let E : Cell → Type 0 = λ d. sights_estimate sights onward (length via) d ≡ 0 in
          subst E goes (omega arith);
      falls = λ l r c few p q m. sight_falls g (cell_at stops l) r c (get_or onward l 0) (get_or sights l None) (f.each l (omega arith)) p m;
      visits = λ l b inside.
          let here : cell_at via l ≡ cell_at stops l = ap (λ (w : List Cell). cell_at w l) v ∙ via_stop stops n l (omega arith) in
          let there = sight_there g (cell_at stops l) (get_or onward l 0) (get_or sights l None) (f.each l (omega arith)) (subst (IsPassable g) here inside) in
          let on = o.before l (omega arith) in
          let V : Cell → Type 0 = λ d. sights_estimate sights onward l d ≤ sights_estimate sights onward (l + 1) d in
          subst V (sym here) (omega arith);
    }
