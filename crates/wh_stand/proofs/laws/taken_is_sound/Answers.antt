use Rattle.wh_stand.proofs.Whole.{taken_is_sound}
use Rattle.wh_stand.proofs.laws.taken_is_sound.Goals as goal

pub returns : goal.returns
returns c = taken_is_sound
