use Rattle.wh_drive.proofs.Making.{each_is_made_on_arrival}
use Rattle.wh_drive.proofs.laws.each_is_made_on_arrival.Goals as goal

pub returns : goal.returns
returns c = each_is_made_on_arrival
