use Rattle.wh_intervals.proofs.Efforts.{effort_of, enough_of}
use Rattle.wh_intervals.proofs.guided.guided_steps.Goals as goal

pub returns-in-Ok-Some-clause-effort : goal.returns-in-Ok-Some-clause-effort
returns-in-Ok-Some-clause-effort c =
    effort_of c.args.grid.now c.args.others.now c.args.loc c.args.stops.now c.args.fields.now c.in-Ok-Some.field-0 c.in-Ok-Some._path c.find.new.expanded c.in-Ok-Some.field-0-is c.in-Ok-Some.ensures.found c.in-Ok-Some.ensures.expanded

pub returns-in-Ok-Some-clause-enough : goal.returns-in-Ok-Some-clause-enough
returns-in-Ok-Some-clause-enough c =
    enough_of c.args.grid.now c.args.others.now c.args.loc c.args.stops.now c.in-Ok-Some.field-0 c.in-Ok-Some._path c.find.new.expanded c.in-Ok-Some.field-0-is c.in-Ok-Some.ensures.found c.in-Ok-Some.ensures.moves
