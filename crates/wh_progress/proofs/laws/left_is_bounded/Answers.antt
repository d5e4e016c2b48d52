use Rattle.wh_progress.proofs.Delivered.{left_is_bounded}
use Rattle.wh_progress.proofs.laws.left_is_bounded.Goals as goal

pub returns : goal.returns
returns c = left_is_bounded
