use Rattle.wh_convoy.proofs.Found.{passed_more}
use Rattle.wh_convoy.proofs.finding.whole_bytes.Goals as goal

pub loop-line-preserved : goal.loop-line-preserved
loop-line-preserved c = passed_more c.args.text.now c.loop-line.rest.now c.in-Some._line.now c.in-Some.after.now c.loop-line.invariant c.in-Some.ensures.parts
