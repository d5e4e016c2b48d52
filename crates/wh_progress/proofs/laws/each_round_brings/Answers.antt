use Rattle.wh_progress.proofs.Delivered.{each_round_brings}
use Rattle.wh_progress.proofs.laws.each_round_brings.Goals as goal

pub returns : goal.returns
returns c = each_round_brings
