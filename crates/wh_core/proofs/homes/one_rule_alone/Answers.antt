use Rattle.wh_core.proofs.GoingHome.{one_rule}
use Rattle.wh_core.proofs.homes.one_rule_alone.Goals as goal

pub returns : goal.returns
returns c = one_rule
