use Rattle.wh_convoy.proofs.Kept.{each_move_is_kept}
use Rattle.wh_convoy.proofs.laws.each_move_is_kept.Goals as goal

pub returns : goal.returns
returns c = each_move_is_kept
