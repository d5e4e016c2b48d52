use Rattle.std.proofs.Common.{ℕ, ◌<◌, List, MatchOption, IfOk, subst}
use Rattle.wh_grid.specs.declared.cell.Cell.{Cell}
use Rattle.wh_path.specs.Paths.{last_index}
use Rattle.wh_search.specs.Guides.{guide_estimate}
use Rattle.wh_search.specs.Parkings.{IsParking, IsLeastParking}
use Rattle.wh_search.specs.Tours.{IsTour, IsLeastTour}
use Rattle.wh_search.proofs.Stops.{ok_weaker}
use Rattle.wh_intervals.proofs.Tasks.{parking_found}
use Rattle.wh_intervals.proofs.parking.find_near.Goals as goal

pub returns-clause-found : goal.returns-clause-found
returns-clause-found c =
    let g = c.args.grid.now in
    let o = c.args.others.now in
    let loc = c.args.loc in
    let ends = c.args.allowed.now in
    let e = c.errand_to_nearest-errand.result in
    let told = c.errand_to_nearest-errand.ensures in
    let least : ℕ = guide_estimate e.guide e.first e.loc in
    let Longer : ℕ → List Cell → Type 0 = λ n q. 0 < c.find_straight.new.effort → n < last_index q in
    let P : ℕ → Type 0 = λ n. IfOk c.find_straight.result (λ found. MatchOption found ((q : List Cell) → IsParking g o loc ends q → Longer n q) (λ p. IsLeastParking g o loc ends p)) in
    subst P told.estimate (ok_weaker c.find_straight.result
    (λ found. MatchOption found ((q : List Cell) → IsTour e.grid.now e.others.now e.loc e.via.now e.ends.now q → Longer least q) (λ p. IsLeastTour e.grid.now e.others.now e.loc e.via.now e.ends.now p))
    (λ found. MatchOption found ((q : List Cell) → IsParking g o loc ends q → Longer least q) (λ p. IsLeastParking g o loc ends p))
    (λ found h. parking_found g o loc ends (Longer least) e found told.parks h) c.find_straight.ensures.found)
