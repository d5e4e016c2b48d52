use Rattle.wh_planner.proofs.Routes.{clear_ways_by_stops}
use Rattle.wh_planner.proofs.laws.clear_ways_go_from_stop_to_stop.Goals as goal

pub returns : goal.returns
returns c = clear_ways_by_stops
