use Rattle.wh_core.proofs.Stopped.{loads_are_told}
use Rattle.wh_core.proofs.laws.loads_are_told.Goals as goal

pub returns : goal.returns
returns c = loads_are_told
