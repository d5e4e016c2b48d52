-- The words so far give the clients so far.
use Rattle.std.proofs.Common.{map, take}
use Rattle.wh_client.specs.Clients.{GiveClients}
use Rattle.wh_client.proofs.client.clients_of.Given as goal

abbrev pub invariant-loop-text : goal.invariant-loop-text
invariant-loop-text l = GiveClients (map (λ t. t.now) (take l.text-index l.texts)) l.clients.items
