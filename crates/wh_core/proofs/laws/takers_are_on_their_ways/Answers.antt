use Rattle.wh_core.proofs.Sound.{takers_are_on_their_ways}
use Rattle.wh_core.proofs.laws.takers_are_on_their_ways.Goals as goal

pub returns : goal.returns
returns c = takers_are_on_their_ways
