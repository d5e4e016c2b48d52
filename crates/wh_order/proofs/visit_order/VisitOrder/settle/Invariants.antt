use Rattle.std.proofs.Common.{◌≡◌, ◌+◌, ◌*◌, cond, false}
use Rattle.wh_drive.specs.Drives.{Drive}
use Rattle.wh_order.specs.Orders.{Represents}
use Rattle.wh_order.specs.Settling.{IsQuiet, Settles, to_go}
use Rattle.wh_order.proofs.visit_order.VisitOrder.settle.Given as goal

abbrev pub invariant-loop-moved : goal.invariant-loop-moved
invariant-loop-moved l = record {
  drive : (d : Drive) → Represents l.initial.self d → Settles d l.self l.initial.told.items l.told.items;
  quiet : l.moved ≡ false → (d : Drive) → Represents l.self d → IsQuiet d;
}

abbrev pub decreases-loop-moved : goal.decreases-loop-moved
decreases-loop-moved l = 2 * to_go l.self + cond l.moved 1 0
