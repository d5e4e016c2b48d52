use Rattle.wh_core.proofs.WrongRows.{no_pickup_invented}
use Rattle.wh_core.proofs.rows.no_pickup_invented.Goals as goal

pub returns : goal.returns
returns c = no_pickup_invented
