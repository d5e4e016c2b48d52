use Rattle.wh_search.specs.Deliveries.{IsDelivery}
use Rattle.wh_intervals.proofs.Late.{least_late}
use Rattle.wh_planners.proofs.deliver.deliver_shared.Goals as goal

pub returns-in-Ok-Some-clause-late : goal.returns-in-Ok-Some-clause-late
returns-in-Ok-Some-clause-late c =
    least_late (IsDelivery c.args.grid.now c.args.others.now c.args.loc c.args.stops.now) c.args.slack c.in-Ok-Some.path (rw c.in-Ok-Some.field-0-is at c.in-Ok-Some.ensures.least)
