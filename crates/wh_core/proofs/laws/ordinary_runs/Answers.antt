use Rattle.wh_core.proofs.Same.{ordinary_runs}
use Rattle.wh_core.proofs.laws.ordinary_runs.Goals as goal

pub returns : goal.returns
returns c = ordinary_runs
