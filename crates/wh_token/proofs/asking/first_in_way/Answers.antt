use Rattle.std.proofs.Common.{◌<◌, length, refl, arith}
use Rattle.wh_token.proofs.Takers.{asked-read, rest-more, rest-over, way-first}
use Rattle.wh_token.proofs.asking.first_in_way.Goals.{else-not-asked-agent-via-then-not-asked-agent+else-makes_way, else-not-asked-agent-via-else-not-asked-agent}
use Rattle.wh_token.proofs.asking.first_in_way.Goals as goal

pub makes_way-requires-clause-none : goal.makes_way-requires-clause-none
makes_way-requires-clause-none c =
    let asked = c.args.asked.now in
    let agent = c.loop-agent.agent in
    let lt : agent < length asked = (let l = c.loop-agent-test.true in let e = c.loop-agent.invariant.agents in omega arith) in
    c.requires.none agent (asked-read asked agent _ _ lt c.if-not-asked-agent.true)

pub returns-then-makes_way-clause-first : goal.returns-then-makes_way-clause-first
returns-then-makes_way-clause-first c =
    let book = c.args.book.now in
    let asked = c.args.asked.now in
    let agent = c.loop-agent.agent in
    let lt : agent < length asked = (let l = c.loop-agent-test.true in let e = c.loop-agent.invariant.agents in omega arith) in
    way-first book.site book.state asked agent c.loop-agent.invariant.rest (asked-read asked agent _ _ lt c.if-not-asked-agent.true) c.requires.none
    (c.if-makes_way.ensures.way refl)

pub loop-agent-preserved : goal.loop-agent-preserved
loop-agent-preserved c =
    let book = c.args.book.now in
    let asked = c.args.asked.now in
    let agent = c.loop-agent.agent in
    let lt : agent < length asked = (let l = c.loop-agent-test.true in let e = c.loop-agent.invariant.agents in omega arith) in
    record {
      rest = elim c.else-not-asked-agent.branch [
        | else-not-asked-agent-via-then-not-asked-agent+else-makes_way w ↦
            rest-more book.site book.state asked agent c.loop-agent.invariant.rest (w.makes_way.ensures.rests w.if-makes_way.false)
        | else-not-asked-agent-via-else-not-asked-agent w ↦
            rest-over book.site book.state asked agent c.loop-agent.invariant.rest (asked-read asked agent _ _ lt w.if-not-asked-agent.false)
      ];
      agents = c.loop-agent.invariant.agents;
    }
