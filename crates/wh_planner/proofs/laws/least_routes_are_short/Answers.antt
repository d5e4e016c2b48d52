use Rattle.wh_planner.proofs.Routes.{least_short}
use Rattle.wh_planner.proofs.laws.least_routes_are_short.Goals as goal

pub returns : goal.returns
returns c = least_short
