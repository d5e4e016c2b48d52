use Rattle.wh_serve.proofs.Clocks.{clock_stays}
use Rattle.wh_serve.proofs.call.call_allowed.Goals as goal

pub returns-in-Ok-clause-clock : goal.returns-in-Ok-clause-clock
returns-in-Ok-clause-clock g c =
    clock_stays g.N.DeskName.origin c.call.new.pass.known c.in-Ok.receipt.position c.in-Ok.receipt.clock c.in-Ok.receipt.entry c.in-Ok.ensures.clock c.in-Ok.ensures.kept.stands
