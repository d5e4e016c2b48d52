use Rattle.wh_replay.proofs.Placing.{run_clock}
use Rattle.wh_replay.proofs.laws.clocks_are.Goals as goal

pub returns : goal.returns
returns c = run_clock
