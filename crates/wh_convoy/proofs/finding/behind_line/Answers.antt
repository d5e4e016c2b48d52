use Rattle.std.proofs.lemmas.Bool.Decides.{Decides-eqb}
use Rattle.std.proofs.lemmas.Slice.Eq.{strip_prefix_is}
use Rattle.wh_convoy.proofs.Found.{behind_none, behind_some, has_line}
use Rattle.wh_convoy.proofs.finding.behind_line.Goals as goal

pub returns-clause-some : goal.returns-clause-some
returns-clause-some c = behind_some c.args.text.now c.args.first.now c.strip_prefix.result (strip_prefix_is Decides-eqb c.args.text.now c.args.first.now c.strip_prefix.result c.strip_prefix.ensures.cases)

pub returns-clause-none : goal.returns-clause-none
returns-clause-none c =
    behind_none c.args.text.now c.args.first.now c.strip_prefix.result (has_line c.args.text.now c.in-Some._line.now c.in-Some._rest.now c.in-Some.ensures.parts c.in-Some.ensures.line)
    (strip_prefix_is Decides-eqb c.args.text.now c.args.first.now c.strip_prefix.result c.strip_prefix.ensures.cases)
