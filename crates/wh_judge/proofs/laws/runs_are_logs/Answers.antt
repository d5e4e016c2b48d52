use Rattle.wh_judge.proofs.Histories.{runs_are_logs}
use Rattle.wh_judge.proofs.laws.runs_are_logs.Goals as goal

pub returns : goal.returns
returns c = runs_are_logs
