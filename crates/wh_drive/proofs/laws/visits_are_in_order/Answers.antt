use Rattle.wh_drive.proofs.Making.{visits_are_in_order}
use Rattle.wh_drive.proofs.laws.visits_are_in_order.Goals as goal

pub returns : goal.returns
returns c = visits_are_in_order
