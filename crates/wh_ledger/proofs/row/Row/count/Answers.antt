use Rattle.wh_tasks.specs.declared.task.Phase.{Phase}
use Rattle.wh_ledger.proofs.Counting.{row-counted}
use Rattle.wh_ledger.proofs.row.Row.count.Goals as goal

pub returns-in-Open-clause-row : goal.returns-in-Open-clause-row
returns-in-Open-clause-row c tasks h = row-counted Phase.Open c.args.self.now tasks c.args.task.now c.requires.own (cc) h

pub returns-in-Assigned-clause-row : goal.returns-in-Assigned-clause-row
returns-in-Assigned-clause-row c tasks h = row-counted Phase.Assigned c.args.self.now tasks c.args.task.now c.requires.own (cc) h

pub returns-in-Carried-clause-row : goal.returns-in-Carried-clause-row
returns-in-Carried-clause-row c tasks h = row-counted Phase.Carried c.args.self.now tasks c.args.task.now c.requires.own (cc) h

pub returns-in-Done-clause-row : goal.returns-in-Done-clause-row
returns-in-Done-clause-row c tasks h =
    rw (c.from.ensures, c.time_of.ensures) (row-counted Phase.Done c.args.self.now tasks c.args.task.now c.requires.own (cc) h)
