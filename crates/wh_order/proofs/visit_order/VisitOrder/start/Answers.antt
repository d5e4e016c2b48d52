use Rattle.std.proofs.Common.{subst, sym}
use Rattle.wh_drive.specs.Drives.{started}
use Rattle.wh_order.specs.Orders.{Order, Represents}
use Rattle.wh_order.proofs.Changes.{represents-started}
use Rattle.wh_order.proofs.visit_order.VisitOrder.start.Goals as goal

pub returns-clause-ok : goal.returns-clause-ok
returns-clause-ok c = λ d r.
    subst (λ (o : Order). Represents o (started c.args.agent d)) (sym c.set_out.ensures)
    (represents-started c.args.self.now d c.args.agent r (c.in_default.ensures.none d r))
