use Rattle.wh_drive.proofs.Bounds.{who_stops_has_arrived}
use Rattle.wh_drive.proofs.laws.who_stops_has_arrived.Goals as goal

pub returns : goal.returns
returns c = who_stops_has_arrived
