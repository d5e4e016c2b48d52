use Rattle.wh_progress.proofs.Delivered.{all_is_delivered}
use Rattle.wh_progress.proofs.laws.all_is_delivered.Goals as goal

pub returns : goal.returns
returns c = all_is_delivered
