use Rattle.wh_core.proofs.WrongRows.{no_endless_wait}
use Rattle.wh_core.proofs.rows.no_endless_wait.Goals as goal

pub returns : goal.returns
returns c = no_endless_wait
