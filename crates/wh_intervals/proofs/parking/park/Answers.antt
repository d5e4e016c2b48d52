use Rattle.wh_search.specs.Parkings.{IsLeastParking}
use Rattle.wh_search.proofs.Stops.{ok_weaker}
use Rattle.wh_intervals.specs.Late.{IsLateParking}
use Rattle.wh_intervals.proofs.Late.{parking_least}
use Rattle.wh_intervals.proofs.parking.park.Goals as goal

pub returns-clause-least : goal.returns-clause-least
returns-clause-least c =
    let g = c.args.grid.now in
    let o = c.args.others.now in
    let allowed = c.args.allowed.now in
    ok_weaker c.park_in.result (IsLateParking g o c.args.loc allowed 0) (IsLeastParking g o c.args.loc allowed) (parking_least g o c.args.loc allowed) c.park_in.ensures.late
