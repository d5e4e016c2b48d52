use Rattle.wh_core.proofs.WorkedRows.{submit_refusals}
use Rattle.wh_core.proofs.rows.submit_refusals.Goals as goal

pub returns : goal.returns
returns c = submit_refusals
