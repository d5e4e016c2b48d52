use Rattle.wh_stand.proofs.Soundness.{parts_tell_the_state}
use Rattle.wh_stand.proofs.laws.parts_tell_the_state.Goals as goal

pub returns : goal.returns
returns c = parts_tell_the_state
