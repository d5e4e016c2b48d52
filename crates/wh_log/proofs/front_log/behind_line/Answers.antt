use Rattle.std.proofs.Common.{length, ap, sym, ◌∙◌}
use Rattle.wh_log.proofs.LineLaws.{one_line, not_whole}
use Rattle.wh_log.proofs.front_log.behind_line.Goals as goal

pub returns-in-Some : goal.returns-in-Some
returns-in-Some c line more is e = ap length (one_line c.in-Some.field-0-0.now line c.in-Some.rest.now more c.in-Some.ensures.line is (sym c.in-Some.ensures.parts ∙ e)).1

pub returns-in-None : goal.returns-in-None
returns-in-None c line more is e = absurd (not_whole c.args.text.now line more c.in-None.ensures.none e)
