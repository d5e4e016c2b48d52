use Rattle.std.proofs.Common.{List, [], MatchOption}
use Rattle.wh_grid.specs.declared.cell.Cell.{Cell}
use Rattle.wh_search.specs.Parkings.{IsParking, IsLeastParking}
use Rattle.wh_search.specs.Tours.{IsTour, IsLeastTour}
use Rattle.wh_search.proofs.Stops.{ok_weaker}
use Rattle.wh_search.proofs.Parks.{parking_weaker}
use Rattle.wh_motion_rows.proofs.layers.find_parking.Goals as goal

pub returns : goal.returns
returns c =
    let g = c.args.grid.now in
    let o = c.args.others.now in
    let ends = c.args.allowed.now in
    ok_weaker c.search.result
    (λ found. MatchOption found ((q : List Cell) → IsTour g o c.args.loc [] ends q → ⊥) (λ p. IsLeastTour g o c.args.loc [] ends p))
    (λ found. MatchOption found ((q : List Cell) → IsParking g o c.args.loc ends q → ⊥) (λ p. IsLeastParking g o c.args.loc ends p))
    (λ found h. parking_weaker g o c.args.loc ends (λ q. ⊥) found h) c.search.ensures
