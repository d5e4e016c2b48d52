use Rattle.wh_drive.proofs.Rings.{rings_stand}
use Rattle.wh_drive.proofs.laws.rings_stand.Goals as goal

pub returns : goal.returns
returns c = rings_stand
