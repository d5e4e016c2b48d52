use Rattle.wh_drive.proofs.Rings.{only_rings_stand}
use Rattle.wh_drive.proofs.laws.only_rings_stand.Goals as goal

pub returns : goal.returns
returns c = only_rings_stand
