use Rattle.wh_order.proofs.Settled.{settles-more}
use Rattle.wh_order.proofs.visit_order.VisitOrder.settle.Goals as goal

pub loop-moved-preserved : goal.loop-moved-preserved
loop-moved-preserved c = record {
  drive = λ d r. settles-more d c.loop-moved.self c.round.new.self c.args.told.now.items c.loop-moved.told.items c.round.new.told.items
      (c.loop-moved.invariant.drive d r) c.in_ok-moved.ensures.drive;
  quiet = c.in_ok-moved.ensures.quiet;
}
