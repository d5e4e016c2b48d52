use Rattle.wh_drive.proofs.Waiting.{only_that_wakes}
use Rattle.wh_drive.proofs.laws.only_that_wakes.Goals as goal

pub returns : goal.returns
returns c = only_that_wakes
