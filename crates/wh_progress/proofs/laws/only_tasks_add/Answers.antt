use Rattle.wh_progress.proofs.Delivered.{only_tasks_add}
use Rattle.wh_progress.proofs.laws.only_tasks_add.Goals as goal

pub returns : goal.returns
returns c = only_tasks_add
