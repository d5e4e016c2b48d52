use Rattle.wh_progress.proofs.Standing.{two_stops_are_two_places}
use Rattle.wh_progress.proofs.laws.two_stops_are_two_places.Goals as goal

pub returns : goal.returns
returns c = two_stops_are_two_places
