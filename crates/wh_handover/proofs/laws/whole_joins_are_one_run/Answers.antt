use Rattle.wh_handover.proofs.Joining as joining
use Rattle.wh_handover.proofs.laws.whole_joins_are_one_run.Goals as goal

pub returns : goal.returns
returns c = joining.whole_joins_are_one_run
