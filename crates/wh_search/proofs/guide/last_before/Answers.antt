use Rattle.std.proofs.Common.{subst, arith}
use Rattle.std.proofs.lemmas.Nat.{leading_top}
use Rattle.wh_search.specs.Ways.{IsLastBefore}
use Rattle.wh_search.proofs.Falls.{last_of, none_of}
use Rattle.wh_search.proofs.guide.last_before.Goals as goal

pub returns-then-few-eq0-clause-none : goal.returns-then-few-eq0-clause-none
returns-then-few-eq0-clause-none c = none_of c.args.moves c.args.before c.from-few.result c.from-few.ensures c.requires (omega (arith, c.if-few-eq0.true))

pub returns-else-few-eq0-clause-some : goal.returns-else-few-eq0-clause-some
returns-else-few-eq0-clause-some c =
    let few = c.from-few.result in
    let some = c.if-few-eq0.false in
    let fits = c.from-few.type_inv in
    let top = leading_top 32 few (omega arith) (omega arith) in
    subst (IsLastBefore c.args.moves c.args.before) (let e = top.1 in omega arith) (last_of c.args.moves c.args.before top.0 few c.from-few.ensures c.requires top.2 top.3)
