use Rattle.wh_ledger.proofs.Ordered.{in-order}
use Rattle.wh_ledger.proofs.laws.clients_are_in_order.Goals as goal

pub returns : goal.returns
returns c = in-order
