use Rattle.wh_text.specs.Lines.{IsLine}
use Rattle.wh_convoy.proofs.Found.{few_none, few_one, none_of}
use Rattle.wh_convoy.proofs.finding.is_driven.Goals as goal

pub returns-in-Some-clause-undriven : goal.returns-in-Some-clause-undriven
returns-in-Some-clause-undriven c = λ no driven.
    few_one c.args.text.now c.in-Some._first.now c.in-Some.rest.now c.in-Some.ensures.parts c.in-Some.ensures.line
    (none_of (IsLine c.in-Some.rest.now) c.whole_line-in-Some.result c.is_some.result c.is_some.ensures no c.whole_line-in-Some.ensures.none) driven

pub returns-in-None-clause-undriven : goal.returns-in-None-clause-undriven
returns-in-None-clause-undriven c = λ no driven. few_none c.args.text.now c.in-None.ensures.none driven
