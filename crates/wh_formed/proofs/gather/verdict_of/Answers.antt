use Rattle.std.proofs.Common.{◌≡◌, subst, arith, length}
use Rattle.wh_formed.proofs.VerdictLemmas.{NoneBefore, all_none, first_some}
use Rattle.wh_formed.proofs.gather.verdict_of.Goals as goal

pub returns-in-Some : goal.returns-in-Some
returns-in-Some c = λ site enough all.
    (enough, first_some site c.args.cuts.now all c.loop-a.a c.in-Some.b _ c.loop-a-test.true c.loop-a.invariant c.in-Some.is)

pub returns : goal.returns
returns c = λ site enough all.
    let e : c.loop-a.a ≡ length c.args.cuts.now = omega arith in
    all_none site c.args.cuts.now all enough (subst (NoneBefore c.args.cuts.now) e c.loop-a.invariant)
