use Rattle.wh_core.proofs.Sound.{ways_are_kept}
use Rattle.wh_core.proofs.laws.ways_are_kept.Goals as goal

pub returns : goal.returns
returns c = ways_are_kept
