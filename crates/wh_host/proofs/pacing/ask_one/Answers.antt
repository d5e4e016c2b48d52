use Rattle.wh_desk.specs.Calls.{AskedNext}
use Rattle.wh_host.proofs.Turning.{asks_once}
use Rattle.wh_host.proofs.pacing.ask_one.Goals as goal

pub returns-in-Ok-Some-clause-asks : goal.returns-in-Ok-Some-clause-asks
returns-in-Ok-Some-clause-asks g c _ =
    let receipt = c.in-Ok-Some.receipt in
    let next : AskedNext g.N.DeskName.origin c.args.pass.now c.args.asked.now c.ask_next.new.pass c.ask_next.new.asked receipt.position receipt.entry = (rw c.in-Ok-Some.field-0-is at c.in-Ok-Some.ensures.next) in
    asks_once g.N.DeskName.origin c.args.pass.now c.args.asked.now c.args.last.now c.ask_next.new.pass c.ask_next.new.asked c.receive.new.self receipt.position receipt.entry next c.receive.ensures
