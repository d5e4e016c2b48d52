use Rattle.wh_resume.proofs.Walks.{ends_before_one}
use Rattle.wh_resume.proofs.two.begun_otherwise.Goals as goal

pub returns-in-Some : goal.returns-in-Some
returns-in-Some c = ends_before_one c.args.text.now c.in-Some.field-0-0.now c.in-Some.rest.now c.in-Some.ensures.line c.in-Some.ensures.parts
