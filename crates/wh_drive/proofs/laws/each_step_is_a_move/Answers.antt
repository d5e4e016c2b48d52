use Rattle.wh_drive.proofs.Running.{each_step_is_a_move}
use Rattle.wh_drive.proofs.laws.each_step_is_a_move.Goals as goal

pub returns : goal.returns
returns c = each_step_is_a_move
