use Rattle.wh_core.proofs.Sound.{sound-reached}
use Rattle.wh_core.proofs.laws.limits_hold.Goals as goal

pub returns : goal.returns
returns c = λ site entries s r. (let sound = sound-reached site entries s r in (sound.few, sound.clock_fits))
