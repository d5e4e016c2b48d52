use Rattle.wh_drive.proofs.Bounds.{runs_are_bounded}
use Rattle.wh_drive.proofs.laws.runs_are_bounded.Goals as goal

pub returns : goal.returns
returns c = runs_are_bounded
