use Rattle.std.proofs.Common.{◌≤◌, take, arith, subst}
use Rattle.std.proofs.lemmas.List.{length-take, take-take}
use Rattle.wh_lines.specs.Section.{HasNoMark}
use Rattle.wh_lines.proofs.PlainLines.{unmarked_plain, take_plain}
use Rattle.wh_lines.proofs.sections.plain_lines.Goals as goal

pub returns-clause-unmarked : goal.returns-clause-unmarked
returns-clause-unmarked c =
    let waiting = c.args.waiting.now in
    let few : c.whole_lines.result ≤ c.min.result = omega (arith, c.whole_lines.ensures.within, length-take c.min.result waiting) in
    subst HasNoMark (take-take c.whole_lines.result c.min.result waiting few)
    (unmarked_plain (take c.whole_lines.result (take c.min.result waiting)) (take_plain c.whole_lines.result (take c.min.result waiting) (c.has_percent.ensures c.if-has_percent.false)))
