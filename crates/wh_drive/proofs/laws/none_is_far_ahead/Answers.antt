use Rattle.wh_drive.proofs.Running.{none_is_far_ahead}
use Rattle.wh_drive.proofs.laws.none_is_far_ahead.Goals as goal

pub returns : goal.returns
returns c = none_is_far_ahead
