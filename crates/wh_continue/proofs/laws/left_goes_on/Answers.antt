use Rattle.wh_continue.proofs.Renewed.{left_goes_on}
use Rattle.wh_continue.proofs.laws.left_goes_on.Goals as goal

pub returns : goal.returns
returns c = left_goes_on
