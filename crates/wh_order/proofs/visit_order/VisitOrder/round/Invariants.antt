use Rattle.std.proofs.Common.{◌≡◌, ℕ, ◌<◌, ◌≤◌, length, true, false}
use Rattle.wh_drive.specs.Drives.{Drive, MayStart}
use Rattle.wh_order.specs.Orders.{Represents}
use Rattle.wh_order.specs.Settling.{Passes, Settles, to_go}
use Rattle.wh_order.proofs.visit_order.VisitOrder.round.Given as goal

abbrev pub invariant-loop-agent : goal.invariant-loop-agent
invariant-loop-agent l = record {
  size : length l.self.vehicles ≡ length l.initial.self.vehicles;
  drive : (d : Drive) → Represents l.initial.self d → Settles d l.self l.initial.told.items l.told.items;
  no_more : to_go l.self ≤ to_go l.initial.self;
  less : l.moved ≡ true → to_go l.self < to_go l.initial.self;
  none : l.moved ≡ false → (d : Drive) → Represents l.self d → (i : ℕ) → i < l.agent → (¬ MayStart d i) × (¬ Passes d i);
}
