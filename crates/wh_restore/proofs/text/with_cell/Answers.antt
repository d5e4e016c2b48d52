use Rattle.std.proofs.Common.{arith}
use Rattle.wh_restore.proofs.Writing.{cell_short}
use Rattle.wh_restore.proofs.text.with_cell.Goals as goal

pub returns-clause-short : goal.returns-clause-short
returns-clause-short c = cell_short c.put_number-2.new.line.items c.put_number.new.line.items c.new-line.result.items c.args.text.now c.from.result c.from-2.result (search) c.put_number.ensures.text c.put_number-2.ensures.text
    (omega (arith, c.from.ensures, c.well_formed)) (omega (arith, c.from-2.ensures, c.well_formed)) c.requires
