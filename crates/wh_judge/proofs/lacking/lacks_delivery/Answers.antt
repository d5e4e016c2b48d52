use Rattle.std.proofs.Common.{subst}
use Rattle.wh_judge.specs.Judged.{IsChoice}
use Rattle.wh_judge.proofs.Ways.{lacks-delivery, lacks-nothing}
use Rattle.wh_judge.proofs.lacking.lacks_delivery.Goals as goal

pub returns-in-None-clause-lacks : goal.returns-in-None-clause-lacks
returns-in-None-clause-lacks c =
    let site = c.args.instance.now in
    let s = c.args.floor.now.state in
    lacks-nothing site s c.args.agent (subst (λ o. IsChoice site s c.args.agent o) c.in-None.is c.next.ensures.choice)

pub returns-in_ok-has_way-in-Some-clause-lacks : goal.returns-in_ok-has_way-in-Some-clause-lacks
returns-in_ok-has_way-in-Some-clause-lacks c =
    let site = c.args.instance.now in
    let s = c.args.floor.now.state in
    let agent = c.args.agent in
    let choice = subst (λ o. IsChoice site s agent o) c.in-Some.is c.next.ensures.choice in
    lacks-delivery site s agent c.in-Some.n choice.0 c.in_ok-has_way-in-Some.field-0 choice.1 (c.may_stay.ensures.0 c.if-not-may_stay.false) c.in_ok-has_way-in-Some.ensures
