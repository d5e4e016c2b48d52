use Rattle.wh_vehicles.proofs.Planning.{each_run_is_a_plan}
use Rattle.wh_vehicles.proofs.laws.each_run_is_a_plan.Goals as goal

pub returns : goal.returns
returns c = each_run_is_a_plan
