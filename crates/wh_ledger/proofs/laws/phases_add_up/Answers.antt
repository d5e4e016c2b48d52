use Rattle.wh_ledger.proofs.Ordered.{add-up}
use Rattle.wh_ledger.proofs.laws.phases_add_up.Goals as goal

pub returns : goal.returns
returns c = add-up
