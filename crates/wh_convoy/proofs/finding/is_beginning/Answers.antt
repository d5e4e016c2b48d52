use Rattle.std.proofs.Common.{◌≡◌, ◌∙◌, true, length, drop, sym}
use Rattle.std.proofs.lemmas.Bool.Decides.{Decides-eqb}
use Rattle.std.proofs.lemmas.Slice.Eq.{starts_is}
use Rattle.wh_convoy.specs.Beginning.{first_line}
use Rattle.wh_convoy.proofs.finding.is_beginning.Goals as goal

pub returns-clause-beginning : goal.returns-clause-beginning
returns-clause-beginning c = λ yes.
    let is : c.as_slice.result.now ≡ first_line c.args.preface.now = c.as_slice.ensures.value ∙ c.first_line-first.ensures in (
      drop (length c.args.text.now) c.as_slice.result.now,
      sym is ∙ (starts_is Decides-eqb c.as_slice.result.now c.args.text.now c.starts_with.result c.starts_with.ensures.value).0 yes,
    )

pub returns-clause-other : goal.returns-clause-other
returns-clause-other c = λ no front.
    let is : c.as_slice.result.now ≡ first_line c.args.preface.now = c.as_slice.ensures.value ∙ c.first_line-first.ensures in
    let yes : c.starts_with.result ≡ true = (starts_is Decides-eqb c.as_slice.result.now c.args.text.now c.starts_with.result c.starts_with.ensures.value).1 front.0 (is ∙ front.1) in
    cc
