use Rattle.wh_vehicles.proofs.Planning.{each_step_may_be_taken}
use Rattle.wh_vehicles.proofs.laws.each_step_may_be_taken.Goals as goal

pub returns : goal.returns
returns c = each_step_may_be_taken
