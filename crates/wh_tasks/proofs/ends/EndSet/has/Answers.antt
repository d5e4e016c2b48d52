use Rattle.std.proofs.Common.{◌∙◌}
use Rattle.wh_tasks.proofs.Ending.{has-others, byte-bit}
use Rattle.wh_tasks.proofs.ends.EndSet.has.Goals as goal

pub returns-in-Some : goal.returns-in-Some
returns-in-Some c =
    let e = c.self.inside in
    let one = c.from.ensures ∙ byte-bit c.is.result in
    rw (← c.self.view_is) (has-others e.all.now e.but e.own c.args.cell c.is.result c.from.result c.in-Some.count c.self.invariant.0 c.self.invariant.1 c.is.ensures one c.in-Some.ensures)
