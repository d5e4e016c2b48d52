use Rattle.std.proofs.Common.{◌-◌, List, length, take, drop, MatchOption, refl}
use Rattle.wh_grid.specs.declared.cell.Cell.{Cell}
use Rattle.wh_search.specs.Deliveries.{IsDelivery, IsLeast}
use Rattle.wh_search.specs.Tours.{IsTour, IsLeastTour}
use Rattle.wh_search.proofs.Stops.{ok_weaker, last_part, path_weaker}
use Rattle.wh_motion_rows.proofs.layers.find.Goals as goal

pub returns : goal.returns
returns c =
    let g = c.args.grid.now in
    let o = c.args.others.now in
    let stops = c.args.stops.now in
    let n = length stops - 1 in
    let via = take n stops in
    let ends = take (length stops - n) (drop n stops) in
    ok_weaker c.search.result
    (λ found. MatchOption found ((q : List Cell) → IsTour g o c.args.loc via ends q → ⊥) (λ p. IsLeastTour g o c.args.loc via ends p))
    (λ found. MatchOption found ((q : List Cell) → IsDelivery g o c.args.loc stops q → ⊥) (λ p. IsLeast g o c.args.loc stops p))
    (λ found h. path_weaker g o c.args.loc stops via ends found c.requires.stops.0 refl (last_part stops) h) c.search.ensures
