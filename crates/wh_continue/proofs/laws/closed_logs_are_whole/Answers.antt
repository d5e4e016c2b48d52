use Rattle.wh_continue.proofs.Begun.{closed_whole}
use Rattle.wh_continue.proofs.laws.closed_logs_are_whole.Goals as goal

pub returns : goal.returns
returns c = closed_whole
