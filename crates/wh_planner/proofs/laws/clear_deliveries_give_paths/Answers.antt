use Rattle.wh_planner.proofs.ClearWays.{clear_delivery-lawful}
use Rattle.wh_planner.proofs.laws.clear_deliveries_give_paths.Goals as goal

pub returns : goal.returns
returns c = clear_delivery-lawful
