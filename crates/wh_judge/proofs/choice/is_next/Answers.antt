use Rattle.std.proofs.Common.{subst}
use Rattle.wh_judge.specs.Judged.{IsChoice}
use Rattle.wh_judge.proofs.Choices.{next-iff}
use Rattle.wh_judge.proofs.choice.is_next.Goals as goal

pub returns-in-Some-clause-is : goal.returns-in-Some-clause-is
returns-in-Some-clause-is c =
    let site = c.args.instance.now in
    let s = c.args.floor.now.state in
    next-iff site s c.args.agent c.in-Some.m c.args.n (subst (λ o. IsChoice site s c.args.agent o) c.in-Some.is c.next.ensures.choice)
