-- The clients so far are those of the numbers so far.
use Rattle.std.proofs.Common.{◌≡◌, length}
use Rattle.std.specs.Arc.{arc_value}
use Rattle.wh_claims.specs.Bank.{Belongs}
use Rattle.wh_desk.specs.Lists.{AllAt}
use Rattle.wh_attend.specs.Guests.{IsClient}
use Rattle.wh_attend.proofs.clients.clients_of.Given as goal

abbrev pub invariant-loop-number : goal.invariant-loop-number
invariant-loop-number g l = record {
  seat : Belongs l.seat (arc_value l.bank);
  size : length l.clients.items ≡ l.number;
  each : AllAt (IsClient (goal.F-post g l.make) l.options (arc_value l.grid) (arc_value l.bank) l.history l.counts) l.clients.items;
}
