use Rattle.wh_core.proofs.GoingHome.{each_open_eligible}
use Rattle.wh_core.proofs.homes.each_open_task_is_eligible.Goals as goal

pub returns : goal.returns
returns c = each_open_eligible
