use Rattle.std.proofs.Common.{arith}
use Rattle.wh_formed.specs.Fills.{IsMarked}
use Rattle.wh_formed.proofs.LabelLemmas.{more_labels}
use Rattle.wh_formed.proofs.labels.label.Goals as goal

pub loop-i-preserved : goal.loop-i-preserved
loop-i-preserved c =
    let few = c.loop-i.invariant.few in
    let more = c.in_ok-label_from.ensures.current in
    record {
      labels = more_labels c.args.grid.now (IsMarked c.args.grid.now c.args.open_cells.now) c.loop-i.i c.loop-i.fill.marks.numbers c.label_from.new.fill.marks.numbers c.loop-i.invariant.labels c.in_ok-label_from.ensures.more;
      few = omega arith;
    }
