use Rattle.wh_vehicles.proofs.Standing.{vehicles_stand}
use Rattle.wh_vehicles.proofs.laws.vehicles_stand.Goals as goal

pub returns : goal.returns
returns c = vehicles_stand
