use Rattle.wh_core.proofs.WorkedRows.{one_delivery}
use Rattle.wh_core.proofs.rows.one_delivery.Goals as goal

pub returns : goal.returns
returns c = one_delivery
