use Rattle.std.proofs.Common.{◌≤◌, IfSome, List, Some}
use Rattle.wh_grid.specs.declared.cell.Cell.{Cell}
use Rattle.wh_path.specs.Paths.{last_index}
use Rattle.wh_search.specs.Deliveries.{IsDelivery, IsLawful}
use Rattle.wh_search.specs.Tours.{IsLeastTour}
use Rattle.wh_search.proofs.Stops.{ok_weaker, some_weaker}
use Rattle.wh_intervals.proofs.Tasks.{task_found}
use Rattle.wh_intervals.proofs.unguided.deliver_unguided.Goals as goal

pub returns-clause-lawful : goal.returns-clause-lawful
returns-clause-lawful c =
    let g = c.args.grid.now in
    let o = c.args.others.now in
    let stops = c.args.stops.now in
    let e = c.manhattan_errand-errand.result in
    let T : List Cell → Type 0 = IsLeastTour e.grid.now e.others.now e.loc e.via.now e.ends.now in
    let R : List Cell → Type 0 = IsLawful g o c.args.loc stops in
    ok_weaker c.try_straight.result (λ found. IfSome found T) (λ found. IfSome found R)
    (λ found. some_weaker found T R (λ p h. (task_found g o c.args.loc stops e (Some p) c.requires.stops.0 c.manhattan_errand-errand.ensures.task h).lawful)) c.try_straight.ensures.found

pub returns-clause-least : goal.returns-clause-least
returns-clause-least c =
    let g = c.args.grid.now in
    let o = c.args.others.now in
    let stops = c.args.stops.now in
    let e = c.manhattan_errand-errand.result in
    let T : List Cell → Type 0 = IsLeastTour e.grid.now e.others.now e.loc e.via.now e.ends.now in
    let R : List Cell → Type 0 = λ p. (q : List Cell) → IsDelivery g o c.args.loc stops q → last_index p ≤ last_index q in
    ok_weaker c.try_straight.result (λ found. IfSome found T) (λ found. IfSome found R)
    (λ found. some_weaker found T R (λ p h. (task_found g o c.args.loc stops e (Some p) c.requires.stops.0 c.manhattan_errand-errand.ensures.task h).least)) c.try_straight.ensures.found
