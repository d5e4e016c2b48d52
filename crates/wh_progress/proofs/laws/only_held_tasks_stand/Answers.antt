use Rattle.wh_progress.proofs.Standing.{only_held}
use Rattle.wh_progress.proofs.laws.only_held_tasks_stand.Goals as goal

pub returns : goal.returns
returns c = only_held
