use Rattle.std.proofs.Common.{◌≡◌, take, length}
use Rattle.std.specs.Arc.{arc_value}
use Rattle.wh_claims.specs.Bank.{Belongs}
use Rattle.wh_service.specs.Fleets.{AreSeated}
use Rattle.wh_service.proofs.fleet.seated.Given as goal

abbrev pub invariant-loop-k : goal.invariant-loop-k
invariant-loop-k g l = record {
  seat : Belongs l.seat (arc_value l.bank);
  size : length l.row.items ≡ l.k;
  members : AreSeated (goal.F-post g l.make) l.fleet (arc_value l.grid) (arc_value l.bank) (take l.k l.slots) l.row.items;
}
