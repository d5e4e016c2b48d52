use Rattle.wh_detours.proofs.Detours.{all_least_there}
use Rattle.wh_detours.proofs.laws.all_least_there.Goals as goal

pub returns : goal.returns
returns c = all_least_there
