use Rattle.wh_progress.proofs.Delivered.{each_is_delivered_within}
use Rattle.wh_progress.proofs.laws.each_is_delivered_within.Goals as goal

pub returns : goal.returns
returns c = each_is_delivered_within
