use Rattle.wh_core.proofs.WrongRows.{no_path_past_the_pickup}
use Rattle.wh_core.proofs.rows.no_path_past_the_pickup.Goals as goal

pub returns : goal.returns
returns c = no_path_past_the_pickup
