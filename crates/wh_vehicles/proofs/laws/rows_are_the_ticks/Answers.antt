use Rattle.wh_vehicles.proofs.Planning.{rows_are_the_ticks}
use Rattle.wh_vehicles.proofs.laws.rows_are_the_ticks.Goals as goal

pub returns : goal.returns
returns c = rows_are_the_ticks
