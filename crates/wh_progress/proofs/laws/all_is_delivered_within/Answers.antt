use Rattle.wh_progress.proofs.Delivered.{all_is_delivered_within}
use Rattle.wh_progress.proofs.laws.all_is_delivered_within.Goals as goal

pub returns : goal.returns
returns c = all_is_delivered_within
