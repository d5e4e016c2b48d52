use Rattle.std.proofs.Common.{◌≤◌, List}
use Rattle.wh_grid.specs.declared.cell.Cell.{Cell}
use Rattle.wh_path.specs.Paths.{last_index}
use Rattle.wh_search.specs.Deliveries.{IsDelivery}
use Rattle.wh_search.proofs.Stops.{ok_weaker}
use Rattle.wh_intervals.specs.Late.{IsLateAtMost}
use Rattle.wh_intervals.proofs.Late.{late_least}
use Rattle.wh_intervals.proofs.Over.{sights_over}
use Rattle.wh_intervals.proofs.sighted.deliver_sighted.Goals as goal

pub deliver_over-requires-clause-sights : goal.deliver_over-requires-clause-sights
deliver_over-requires-clause-sights c = sights_over c.args.grid.now c.args.stops.now c.args.sights.now c.requires.sights

pub returns-clause-least : goal.returns-clause-least
returns-clause-least c =
    let Serves : List Cell → Type 0 = IsDelivery c.args.grid.now c.args.others.now c.args.loc c.args.stops.now in
    ok_weaker c.deliver_over.result (IsLateAtMost Serves 0) (λ p. (q : List Cell) → Serves q → last_index p ≤ last_index q) (late_least Serves) c.deliver_over.ensures.late
