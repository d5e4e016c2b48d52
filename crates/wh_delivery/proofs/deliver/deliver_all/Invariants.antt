use Rattle.wh_delivery.specs.Deliveries.{IsDelivering}
use Rattle.wh_delivery.proofs.Going.{IsBegun}
use Rattle.wh_delivery.proofs.deliver.deliver_all.Given as goal

abbrev pub invariant-loop-ticks : goal.invariant-loop-ticks
invariant-loop-ticks g l = record {
  begun : IsBegun l.fn.warehouse.book;
  delivering : IsDelivering l.fn.caller l.fn.warehouse.book l.ticks l.warehouse.book;
}
