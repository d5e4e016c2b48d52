use Rattle.wh_judge.proofs.Verdicts.{one_verdict}
use Rattle.wh_judge.proofs.laws.verdicts_are_one.Goals as goal

pub returns : goal.returns
returns c = one_verdict
