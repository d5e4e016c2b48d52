use Rattle.std.proofs.Common.{◌≤◌, length, arith}
use Rattle.wh_stand.proofs.Holding.{phase-held}
use Rattle.wh_stand.proofs.parts.take_on.Goals as goal

pub returns-then-is_underway-clause-free : goal.returns-then-is_underway-clause-free
returns-then-is_underway-clause-free c = λ free.
    let task = c.args.task.now in
    let some : 1 ≤ length task.stops = (let two = c.as_slice-stops.ensures.two in omega arith) in
    absurd (free c.in-Some.agent (phase-held c.in-Some.agent task c.in-Some.is some (c.is_underway.ensures.0 c.if-is_underway.true)))
