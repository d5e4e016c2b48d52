use Rattle.wh_continue.proofs.Surviving.{told_survives_behind}
use Rattle.wh_continue.proofs.laws.told_survives_behind.Goals as goal

pub returns : goal.returns
returns c = told_survives_behind
