use Rattle.std.proofs.Common.{arith}
use Rattle.wh_path.proofs.path.TimedPath.remaining.Goals as goal

pub returns-clause-bound : goal.returns-clause-bound
returns-clause-bound c = omega arith
