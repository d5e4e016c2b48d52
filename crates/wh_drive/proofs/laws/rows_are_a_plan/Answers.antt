use Rattle.wh_drive.proofs.Running.{rows_are_a_plan}
use Rattle.wh_drive.proofs.laws.rows_are_a_plan.Goals as goal

pub returns : goal.returns
returns c = rows_are_a_plan
