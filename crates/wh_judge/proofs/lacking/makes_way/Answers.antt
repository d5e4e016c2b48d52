use Rattle.std.proofs.Common.{subst}
use Rattle.std.proofs.lemmas.Bool.{MatchBool-at_false}
use Rattle.std.proofs.lemmas.Result.{IfOk-weaker}
use Rattle.wh_judge.specs.Judged.{IsChoice}
use Rattle.wh_judge.proofs.Staying.{idle-way-iff, shut-way-iff}
use Rattle.wh_judge.proofs.lacking.makes_way.Goals as goal

pub returns-in-None-clause-way : goal.returns-in-None-clause-way
returns-in-None-clause-way c =
    let site = c.args.instance.now in
    let s = c.args.floor.now.state in
    let agent = c.args.agent in
    idle-way-iff site s agent (MatchBool-at_false _ _ c.if-may_linger.false c.may_linger.ensures)
    (subst (λ o. IsChoice site s agent o) c.in-None.is c.next.ensures.choice)

pub returns-in-Some-clause-way : goal.returns-in-Some-clause-way
returns-in-Some-clause-way c =
    let site = c.args.instance.now in
    let s = c.args.floor.now.state in
    let agent = c.args.agent in
    let why = MatchBool-at_false _ _ c.if-may_linger.false c.may_linger.ensures in
    let choice = subst (λ o. IsChoice site s agent o) c.in-Some.is c.next.ensures.choice in
    IfOk-weaker c.is_shut_in.result _ _ (λ b iff. shut-way-iff site s agent c.in-Some.n choice.0 b why choice.1 iff) c.is_shut_in.ensures
