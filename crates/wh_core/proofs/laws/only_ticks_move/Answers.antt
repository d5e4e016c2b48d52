use Rattle.wh_core.proofs.Traffic.{only_ticks_move}
use Rattle.wh_core.proofs.laws.only_ticks_move.Goals as goal

pub returns : goal.returns
returns c = only_ticks_move
