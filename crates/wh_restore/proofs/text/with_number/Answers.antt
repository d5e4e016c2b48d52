use Rattle.std.proofs.Common.{arith}
use Rattle.wh_restore.proofs.Writing.{number_short}
use Rattle.wh_restore.proofs.text.with_number.Goals as goal

pub returns-clause-short : goal.returns-clause-short
returns-clause-short c = number_short c.put_number.new.line.items c.new-line.result.items c.args.text.now c.from.result (search) c.put_number.ensures.text (omega (arith, c.from.ensures, c.ranges.number)) c.requires
