use Rattle.wh_log.proofs.Tearing.{two_stand}
use Rattle.wh_log.proofs.window.lines_standing.Goals as goal

pub returns-in-Some-whole_line : goal.returns-in-Some-whole_line
returns-in-Some-whole_line c =
    two_stand c.args.text.now c.in-Some.field-0-0.now c.in-Some-whole_line.field-0.0.now c.in-Some.rest.now c.in-Some-whole_line.field-0.1.now
    c.in-Some.ensures.line c.in-Some-whole_line.ensures.line c.in-Some.ensures.parts c.in-Some-whole_line.ensures.parts
