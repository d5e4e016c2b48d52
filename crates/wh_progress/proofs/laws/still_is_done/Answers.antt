use Rattle.wh_progress.proofs.Standing.{still_is_done}
use Rattle.wh_progress.proofs.laws.still_is_done.Goals as goal

pub returns : goal.returns
returns c = still_is_done
