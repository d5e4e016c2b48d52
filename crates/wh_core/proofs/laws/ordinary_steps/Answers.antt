use Rattle.wh_core.proofs.Same.{ordinary_steps}
use Rattle.wh_core.proofs.laws.ordinary_steps.Goals as goal

pub returns : goal.returns
returns c = ordinary_steps
