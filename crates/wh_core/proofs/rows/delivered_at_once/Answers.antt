use Rattle.wh_core.proofs.WorkedRows.{delivered_at_once}
use Rattle.wh_core.proofs.rows.delivered_at_once.Goals as goal

pub returns : goal.returns
returns c = delivered_at_once
