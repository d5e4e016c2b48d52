use Rattle.wh_core.proofs.Sound.{ways-reached}
use Rattle.wh_core.proofs.laws.all_stay_on_their_ways.Goals as goal

pub returns : goal.returns
returns c = ways-reached
