use Rattle.std.proofs.Common.{◌≡◌, length}
use Rattle.wh_drive.specs.Drives.{Drive}
use Rattle.wh_order.specs.Orders.{Represents}
use Rattle.wh_order.specs.Bringing.{GoesOn}
use Rattle.wh_order.proofs.Brought.{AreAlong, AreLeft}
use Rattle.wh_order.proofs.visit_order.VisitOrder.bring.Given as goal

abbrev pub invariant-loop-agent : goal.invariant-loop-agent
invariant-loop-agent l = record {
  size : length l.self.vehicles ≡ length l.steps;
  clock : l.self.clock ≡ l.initial.self.clock;
  along : AreAlong l.self l.steps l.agent;
  left : AreLeft l.self l.steps l.agent;
  drive : (d : Drive) → Represents l.initial.self d → GoesOn d l.self;
}
