use Rattle.wh_core.proofs.GoingHome.{only_idle_rest}
use Rattle.wh_core.proofs.homes.only_the_idle_rest.Goals as goal

pub returns : goal.returns
returns c = only_idle_rest
