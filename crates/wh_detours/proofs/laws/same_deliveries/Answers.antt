use Rattle.wh_detours.proofs.Detours.{same_deliveries}
use Rattle.wh_detours.proofs.laws.same_deliveries.Goals as goal

pub returns : goal.returns
returns c = same_deliveries
