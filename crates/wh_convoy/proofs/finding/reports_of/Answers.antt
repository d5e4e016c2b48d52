use Rattle.std.proofs.Common.{◌∙◌}
use Rattle.wh_convoy.proofs.Found.{lacks_first}
use Rattle.wh_convoy.proofs.finding.reports_of.Goals as goal

pub returns-in-Some-clause-none : goal.returns-in-Some-clause-none
returns-in-Some-clause-none c =
    lacks_first c.args.preface.now c.in-Some.field-0 c.args.text.now c.as_slice.result.now c.behind_line.result c.in-Some.is (c.as_slice.ensures.value ∙ c.first_line.ensures) c.behind_line.ensures.none
