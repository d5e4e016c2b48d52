use Rattle.wh_arrivals.proofs.Tracks.{behind-start, behind-next}
use Rattle.wh_arrivals.proofs.reading.read_arrivals.Goals as goal

pub loop-line-init : goal.loop-line-init
loop-line-init c = rw c.in_ok-steps.ensures (behind-start c.args.agents c.args.text.now)

pub loop-line-preserved : goal.loop-line-preserved
loop-line-preserved c =
    behind-next c.args.agents c.args.text.now c.loop-line.rest.now c.in-Some.line.now c.in-Some.after.now c.loop-line.lines c.loop-line.steps.items c.note.new.steps.items c.in-Some-arrival.report
    c.loop-line.invariant c.in-Some.ensures.line c.in-Some.ensures.parts c.in-Some-arrival.ensures.some c.note.ensures
