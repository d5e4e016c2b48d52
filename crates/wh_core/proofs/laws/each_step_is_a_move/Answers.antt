use Rattle.wh_core.proofs.Traffic.{each_step_moves}
use Rattle.wh_core.proofs.laws.each_step_is_a_move.Goals as goal

pub returns : goal.returns
returns c = each_step_moves
