-- parking is a tour with no stop on the way
use Rattle.std.proofs.Common.{List, [], Option, Some, None, MatchOption, arith}
use Rattle.wh_grid.specs.declared.cell.Cell.{Cell}
use Rattle.wh_grid.specs.Grids.{Floor}
use Rattle.wh_resv.specs.Others.{Others}
use Rattle.wh_search.specs.Parkings.{IsParking, IsLeastParking}
use Rattle.wh_search.specs.Tours.{IsTour, IsLeastTour}

pub parking_tour : (g : Floor) (others : Others) (loc : Cell) (allowed p : List Cell) → IsParking g others loc allowed p → IsTour g others loc [] allowed p
parking_tour g others loc allowed p d =
    record { starts = d.starts; walk = d.walk; free = d.free; visits = record { when = λ i. 0; in_order = λ i j h. omega arith; there = λ i h. absurd (omega arith) }; delivers = d.parks }

pub tour_parking : (g : Floor) (others : Others) (loc : Cell) (allowed p : List Cell) → IsTour g others loc [] allowed p → IsParking g others loc allowed p
tour_parking g others loc allowed p t = record { starts = t.starts; walk = t.walk; free = t.free; parks = t.delivers }

-- what is known of all tours where none is found is known of all that parks
pub parking_weaker : (g : Floor) (others : Others) (loc : Cell) (allowed : List Cell) (Known : List Cell → Type 0) (o : Option (List Cell))
    → MatchOption o ((q : List Cell) → IsTour g others loc [] allowed q → Known q) (λ p. IsLeastTour g others loc [] allowed p)
    → MatchOption o ((q : List Cell) → IsParking g others loc allowed q → Known q) (λ p. IsLeastParking g others loc allowed p)
parking_weaker g others loc allowed Known None h = λ q d. h q (parking_tour g others loc allowed q d)
parking_weaker g others loc allowed Known (Some p) h =
    record { is_parking = tour_parking g others loc allowed p h.is_tour; bounded = (let b = h.bounded in omega arith); least = λ q d. h.least q (parking_tour g others loc allowed q d) }
