use Rattle.wh_progress.proofs.Having.{rounds_can_be_had}
use Rattle.wh_progress.proofs.laws.rounds_can_be_had.Goals as goal

pub returns : goal.returns
returns c = rounds_can_be_had
