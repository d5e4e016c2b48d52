use Rattle.wh_core.proofs.Sound.{opening-begins}
use Rattle.wh_core.proofs.laws.openings_are_beginnings.Goals as goal

pub returns : goal.returns
returns c = opening-begins
