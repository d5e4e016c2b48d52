use Rattle.wh_continue.proofs.Surviving.{told_survives}
use Rattle.wh_continue.proofs.laws.told_survives.Goals as goal

pub returns : goal.returns
returns c = told_survives
