use Rattle.std.proofs.Common.{◌+◌, arith}
use Rattle.wh_tasks.proofs.Listed.{stands_still}
use Rattle.wh_tasks.proofs.cell_lists.CellLists.take_all.Goals as goal

pub take-requires : goal.take-requires
take-requires c = stands_still c.args.first c.loop-i.i (c.args.first + c.loop-i.i) c.args.self.now.stops c.loop-i.self.stops c.loop-i.invariant.stops (omega arith) (c.requires.stand c.loop-i.i c.loop-i-test.true)
