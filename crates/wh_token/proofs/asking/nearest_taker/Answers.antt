use Rattle.std.proofs.Common.{◌≡◌, length, subst, arith}
use Rattle.wh_token.specs.Asking.{IsAmong, IsNearestTaker}
use Rattle.wh_token.proofs.Takers.{whole-taker}
use Rattle.wh_token.proofs.asking.nearest_taker.Goals as goal

pub returns-in-Some-clause-nearest : goal.returns-in-Some-clause-nearest
returns-in-Some-clause-nearest c =
    let book = c.args.book.now in
    let asked = c.args.asked.now in
    let count = c.loop-agent.agent in
    let all : count ≡ length asked = (let l = c.loop-agent-test.false in let m = c.loop-agent.auto.agent-end in let e = c.loop-agent.invariant.agents in omega arith) in
    whole-taker book.site book.state asked count c.in-Some.taker all
    (subst (λ b. IsNearestTaker book.site book.state (IsAmong asked count) b) c.in-Some.is c.loop-agent.invariant.best)
