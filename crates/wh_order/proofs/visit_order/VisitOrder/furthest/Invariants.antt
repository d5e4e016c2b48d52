use Rattle.std.proofs.Common.{ℕ, ◌<◌, ◌≤◌, length}
use Rattle.wh_order.specs.Orders.{reached_of}
use Rattle.wh_order.proofs.visit_order.VisitOrder.furthest.Given as goal

abbrev pub invariant-loop-agent : goal.invariant-loop-agent
invariant-loop-agent l = record {
  known : l.last < length l.self.vehicles;
  least : (k : ℕ) → k < l.agent → reached_of l.self.vehicles l.last ≤ reached_of l.self.vehicles k;
}
