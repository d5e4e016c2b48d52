use Rattle.wh_drive.proofs.Waiting.{may_start_lasts}
use Rattle.wh_drive.proofs.laws.may_start_lasts.Goals as goal

pub returns : goal.returns
returns c = may_start_lasts
