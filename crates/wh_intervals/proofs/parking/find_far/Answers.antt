use Rattle.std.proofs.Common.{List, MatchOption}
use Rattle.wh_grid.specs.declared.cell.Cell.{Cell}
use Rattle.wh_search.specs.Parkings.{IsParking}
use Rattle.wh_search.specs.Tours.{IsTour}
use Rattle.wh_intervals.specs.Late.{IsLateTour, IsLateParking}
use Rattle.wh_intervals.proofs.Late.{parked_late}
use Rattle.wh_search.proofs.Stops.{ok_weaker}
use Rattle.wh_intervals.proofs.Tasks.{errand_parks}
use Rattle.wh_intervals.proofs.parking.find_far.Goals as goal

pub over_intervals-requires-clause-least : goal.over_intervals-requires-clause-least
over_intervals-requires-clause-least c = λ q t. c.requires.least q (errand_parks c.args.grid.now c.args.others.now c.args.loc c.args.allowed.now c.errand_to_nearest-errand.result q c.errand_to_nearest-errand.ensures.parks t)

pub returns-clause-found : goal.returns-clause-found
returns-clause-found c =
    let g = c.args.grid.now in
    let o = c.args.others.now in
    let loc = c.args.loc in
    let ends = c.args.allowed.now in
    let e = c.errand_to_nearest-errand.result in
    ok_weaker c.over_intervals.result
    (λ found. MatchOption found ((q : List Cell) → IsTour e.grid.now e.others.now e.loc e.via.now e.ends.now q → ⊥) (λ p. IsLateTour e.grid.now e.others.now e.loc e.via.now e.ends.now c.args.slack p))
    (λ found. MatchOption found ((q : List Cell) → IsParking g o loc ends q → ⊥) (λ p. IsLateParking g o loc ends c.args.slack p))
    (λ found h. parked_late g o loc ends c.args.slack e found c.errand_to_nearest-errand.ensures.parks h) c.over_intervals.ensures.found
