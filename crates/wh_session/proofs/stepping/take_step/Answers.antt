use Rattle.wh_session.proofs.Taking.{steps_if}
use Rattle.wh_session.proofs.stepping.take_step.Goals as goal

pub returns-clause-ok : goal.returns-clause-ok
returns-clause-ok g c =
    let left = c.take_front.ensures.left c.if-take_front.false in
    steps_if g.M.Machine.stands g.M.Machine.serves g.M.Machine.says g.M.Machine.logs g.M.Machine.serves_last c.take_next.result c.args.lines.now c.take_front.new.lines c.take_next.new.lines c.args.machine.now c.take_front.new.machine c.take_next.new.machine
    left.0 left.1 c.take_next.ensures.ok
