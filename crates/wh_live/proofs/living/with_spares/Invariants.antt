use Rattle.std.proofs.Common.{◌≡◌, ◌++◌, map}
use Rattle.std.specs.Arc.{arc_value}
use Rattle.std.specs.Vec.Iter.{into_iter_items}
use Rattle.wh_claims.specs.Bank.{Belongs}
use Rattle.wh_live.specs.Hosts.{HaveSpares}
use Rattle.wh_live.proofs.living.with_spares.Given as goal

-- the clients so far have their spares, and those from there on are left
abbrev pub invariant-loop-client : goal.invariant-loop-client
invariant-loop-client g l = record {
  seat : Belongs l.seat (arc_value l.bank);
  order : l.yielded ++ into_iter_items l.client-iterator ≡ l.fn.clients.items;
  commands : map (λ work. work.commands.items) l.works.items ≡ map (λ work. work.commands.items) l.yielded;
  spares : HaveSpares (goal.F-post g l.make) l.fleet (arc_value l.grid) (arc_value l.bank) l.works.items;
}
