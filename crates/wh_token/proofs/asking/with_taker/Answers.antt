use Rattle.std.proofs.Common.{◌+◌, ◌<◌, length, refl, subst}
use Rattle.wh_token.specs.Asking.{IsAmong, IsNearestTaker}
use Rattle.wh_token.proofs.Takers.{asked-read, taker-stays, among-more, among-over, among-none, among-first, among-nearer, among-farther}
use Rattle.wh_token.proofs.asking.with_taker.Goals as goal

pub returns-then-asked-agent-clause-best : goal.returns-then-asked-agent-clause-best
returns-then-asked-agent-clause-best c =
    let book = c.args.book.now in
    let asked = c.args.asked.now in
    let agent = c.args.agent in
    let lt : agent < length asked = rw c.requires.each c.requires.known in
    taker-stays book.site book.state (IsAmong asked agent) (IsAmong asked (agent + 1)) c.args.best (among-more asked agent)
    (among-over book.site book.state asked agent (asked-read asked agent _ _ lt c.if-asked-agent.true)) c.requires.best

pub returns-in_default-clause-best : goal.returns-in_default-clause-best
returns-in_default-clause-best c =
    let book = c.args.book.now in
    let asked = c.args.asked.now in
    let agent = c.args.agent in
    taker-stays book.site book.state (IsAmong asked agent) (IsAmong asked (agent + 1)) c.args.best (among-more asked agent)
    (among-none book.site book.state asked agent c.in_default.ensures.none) c.requires.best

pub returns-in_default-best-clause-best : goal.returns-in_default-best-clause-best
returns-in_default-best-clause-best c =
    let book = c.args.book.now in
    let asked = c.args.asked.now in
    let agent = c.args.agent in
    let lt : agent < length asked = rw c.requires.each c.requires.known in
    among-first book.site book.state asked agent c.in-Some.one
    (asked-read asked agent _ _ lt c.if-asked-agent.false) c.in-Some.ensures.takes
    (subst (λ b. IsNearestTaker book.site book.state (IsAmong asked agent) b) c.in_default-best.is c.requires.best)

pub returns-then-is_nearer-clause-best : goal.returns-then-is_nearer-clause-best
returns-then-is_nearer-clause-best c =
    let book = c.args.book.now in
    let asked = c.args.asked.now in
    let agent = c.args.agent in
    let lt : agent < length asked = rw c.requires.each c.requires.known in
    among-nearer book.site book.state asked agent c.in-Some.one c.in-Some-best.other
    (asked-read asked agent _ _ lt c.if-asked-agent.false) c.in-Some.ensures.takes
    (subst (λ b. IsNearestTaker book.site book.state (IsAmong asked agent) b) c.in-Some-best.is c.requires.best) (c.if-is_nearer.ensures.nearer refl)

pub returns-else-is_nearer-clause-best : goal.returns-else-is_nearer-clause-best
returns-else-is_nearer-clause-best c =
    let book = c.args.book.now in
    let asked = c.args.asked.now in
    let agent = c.args.agent in
    among-farther book.site book.state asked agent c.in-Some.one c.in-Some-best.other
    c.in-Some.ensures.takes
    (subst (λ b. IsNearestTaker book.site book.state (IsAmong asked agent) b) c.in-Some-best.is c.requires.best) (c.if-is_nearer.ensures.farther refl)
