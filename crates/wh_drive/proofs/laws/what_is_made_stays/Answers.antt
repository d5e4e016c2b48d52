use Rattle.wh_drive.proofs.Making.{what_is_made_stays}
use Rattle.wh_drive.proofs.laws.what_is_made_stays.Goals as goal

pub returns : goal.returns
returns c = what_is_made_stays
