use Rattle.wh_progress.proofs.WorkedRounds.{delivered_in_six}
use Rattle.wh_progress.proofs.rows.delivered_in_six.Goals as goal

pub returns : goal.returns
returns c = delivered_in_six
