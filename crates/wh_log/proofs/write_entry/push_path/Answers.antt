use Rattle.std.proofs.Common.{◌<◌, length, arith, rules}
use Rattle.wh_log.proofs.PathLoop.{cell_pushed}
use Rattle.wh_log.proofs.write_entry.push_path.Goals as goal

pub loop-k-preserved : goal.loop-k-preserved
loop-k-preserved c =
    let below : c.loop-k.k < length c.args.path.now = omega (arith, c.loop-k-test.true, c.remaining-k-end.ensures.value, c.remaining-k-end.ensures.some) in
    cell_pushed c.args.out.now.items c.loop-k.out.items c.push_cell.new.out.items c.args.path.now c.loop-k.k c.at.result below c.loop-k.invariant c.at.ensures (search rules)
