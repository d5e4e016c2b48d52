use Rattle.wh_timetable.proofs.HorizonLemmas.{resting}
use Rattle.std.proofs.Common.{arith}
use Rattle.wh_timetable.proofs.timetable.advance_moving.Goals as goal

pub returns-else-left-gt0 : goal.returns-else-left-gt0
returns-else-left-gt0 c = resting c.args.paths.now (omega arith)
