use Rattle.wh_core.proofs.GoingHome.{none_makes_way}
use Rattle.wh_core.proofs.homes.none_makes_way.Goals as goal

pub returns : goal.returns
returns c = none_makes_way
