use Rattle.std.proofs.Common.{◌+◌}
use Rattle.wh_order.specs.Orders.{Represents}
use Rattle.wh_order.proofs.Resuming.{so_far}
use Rattle.wh_order.proofs.visit_order.VisitOrder.replayed.Given as goal

abbrev pub invariant-loop-time : goal.invariant-loop-time
invariant-loop-time l = Represents l.order (so_far (l.time + 1) l.plan)
