use Rattle.std.proofs.Common.{◌≡◌, ℕ, ◌-◌, ◌<◌, min}
use Rattle.std.specs.Prelude.{slice_index}
use Rattle.wh_order.specs.Orders.{vehicle_in}
use Rattle.wh_order.proofs.visit_order.VisitOrder.stands_by.Given as goal

abbrev pub invariant-loop-agent : goal.invariant-loop-agent
invariant-loop-agent l =
    (i : ℕ) → i < l.agent →
    vehicle_in l.self.vehicles i ≡ record { reached = min (slice_index l.steps i) (l.self.clock - 1); told = min (slice_index l.steps i) (l.self.clock - 1) }
