use Rattle.std.proofs.lemmas.Result.{IfOk-weaker}
use Rattle.wh_judge.proofs.Reachable.{has-start}
use Rattle.wh_judge.proofs.requests.has_no_path.Goals as goal

pub lacks_way-requires-clause-home : goal.lacks_way-requires-clause-home
lacks_way-requires-clause-home c =
    let due = c.is_due.ensures.0 c.if-not-is_due.false in
    has-start c.args.instance.now c.args.floor.now.state c.args.agent c.requires.reached due.known.known

pub returns-clause-lacks : goal.returns-clause-lacks
returns-clause-lacks c =
    let due = c.is_due.ensures.0 c.if-not-is_due.false in
    IfOk-weaker c.lacks_way.result _ _ (λ b iff. (λ e. (due, iff.0 e), λ refused. iff.1 refused.1)) c.lacks_way.ensures.lacks
