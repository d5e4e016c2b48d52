use Rattle.wh_core.proofs.Sound.{beginning-reached}
use Rattle.wh_core.proofs.laws.each_state_is_a_beginning.Goals as goal

pub returns : goal.returns
returns c = beginning-reached
