use Rattle.std.proofs.lemmas.Bool.{MatchBool-at_true, MatchBool-at_false}
use Rattle.wh_judge.proofs.Staying.{no-rest-iff}
use Rattle.wh_judge.proofs.lacking.has_rest.Goals as goal

pub returns-then-not-may_linger-clause-rests : goal.returns-then-not-may_linger-clause-rests
returns-then-not-may_linger-clause-rests c =
    no-rest-iff c.args.instance.now c.args.floor.now.state c.args.agent (MatchBool-at_false _ _ c.if-not-may_linger.true c.may_linger.ensures)

pub returns-clause-rests : goal.returns-clause-rests
returns-clause-rests c =
    let rest = MatchBool-at_true _ _ c.if-not-may_linger.false c.may_linger.ensures in
    (λ e. (c.none_is_next.ensures.none.0 e, rest), λ both. c.none_is_next.ensures.none.1 both.0)
