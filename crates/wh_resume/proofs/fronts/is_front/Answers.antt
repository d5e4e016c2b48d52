use Rattle.std.proofs.Common.{◌≡◌, true, length, drop}
use Rattle.std.proofs.lemmas.Bool.Decides.{Decides-eqb}
use Rattle.std.proofs.lemmas.Slice.Eq.{starts_is}
use Rattle.wh_resume.proofs.fronts.is_front.Goals as goal

pub returns-clause-front : goal.returns-clause-front
returns-clause-front c = λ yes. record {
  rest = drop (length c.args.text.now) c.args.bytes.now;
  is = (starts_is Decides-eqb c.args.bytes.now c.args.text.now c.starts_with.result c.starts_with.ensures.value).0 yes;
}

pub returns-clause-other : goal.returns-clause-other
returns-clause-other c = λ no front.
    let yes : c.starts_with.result ≡ true = (starts_is Decides-eqb c.args.bytes.now c.args.text.now c.starts_with.result c.starts_with.ensures.value).1 front.rest front.is in
    cc
