use Rattle.std.proofs.Common.{◌*◌, ◌/◌, ◌%◌, ap}
use Rattle.wh_timetable.specs.Places.{start_of}
use Rattle.wh_timetable.proofs.spread.start_of.Goals as goal

pub returns-clause-value : goal.returns-clause-value
unfolding start_of
returns-clause-value c = ap (λ n. n * 1540483477 % 4294967296 / 32768) c.number_of.ensures
