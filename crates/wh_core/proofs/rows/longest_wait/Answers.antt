use Rattle.wh_core.proofs.WrongRows.{longest_wait}
use Rattle.wh_core.proofs.rows.longest_wait.Goals as goal

pub returns : goal.returns
returns c = longest_wait
