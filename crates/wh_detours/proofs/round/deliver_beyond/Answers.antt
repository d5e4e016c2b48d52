use Rattle.std.proofs.Common.{Some, None}
use Rattle.wh_intervals.proofs.Late.{task_late}
use Rattle.wh_detours.proofs.round.deliver_beyond.Goals as goal

pub returns-in-Ok-Some-clause-lawful : goal.returns-in-Ok-Some-clause-lawful
returns-in-Ok-Some-clause-lawful c =
    let e = c.args.errand.now in
    (task_late e.grid.now e.others.now e.loc c.args.stops.now c.args.slack e (Some c.in-Ok-Some.path) c.requires.stops.0 c.requires.task (rw c.in-Ok-Some.field-0-is at c.in-Ok-Some.ensures.found)).lawful

pub returns-in-Ok-Some-clause-late : goal.returns-in-Ok-Some-clause-late
returns-in-Ok-Some-clause-late c =
    let e = c.args.errand.now in
    (task_late e.grid.now e.others.now e.loc c.args.stops.now c.args.slack e (Some c.in-Ok-Some.path) c.requires.stops.0 c.requires.task (rw c.in-Ok-Some.field-0-is at c.in-Ok-Some.ensures.found)).late

pub returns-in-Ok-None-clause-none : goal.returns-in-Ok-None-clause-none
returns-in-Ok-None-clause-none c =
    let e = c.args.errand.now in
    task_late e.grid.now e.others.now e.loc c.args.stops.now c.args.slack e None c.requires.stops.0 c.requires.task (rw c.in-Ok-None.field-0-is at c.in-Ok-None.ensures.found)
