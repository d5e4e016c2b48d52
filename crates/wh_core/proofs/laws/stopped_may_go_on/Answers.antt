use Rattle.wh_core.proofs.Stopped.{stopped_may_go_on}
use Rattle.wh_core.proofs.laws.stopped_may_go_on.Goals as goal

pub returns : goal.returns
returns c = stopped_may_go_on
