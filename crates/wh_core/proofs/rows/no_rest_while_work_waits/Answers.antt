use Rattle.wh_core.proofs.WrongRows.{no_rest_while_work_waits}
use Rattle.wh_core.proofs.rows.no_rest_while_work_waits.Goals as goal

pub returns : goal.returns
returns c = no_rest_while_work_waits
