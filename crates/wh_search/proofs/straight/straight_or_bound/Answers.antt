use Rattle.std.proofs.Common.{arith}
use Rattle.wh_search.proofs.Ways.{least_whole}
use Rattle.wh_search.proofs.straight.straight_or_bound.Goals as goal

pub returns-in-Found-clause-bound : goal.returns-in-Found-clause-bound
returns-in-Found-clause-bound c = λ q t. omega (arith, least_whole c.args.errand.now c.requires.errand q t, c.estimate-whole.ensures)

pub returns-in-Longer-clause-bound : goal.returns-in-Longer-clause-bound
returns-in-Longer-clause-bound c = λ q t.
    let late = (rw c.in-Longer.is at c.in_ok-path.ensures.outcome) q t in
    omega (arith, late, c.estimate-whole.ensures, c.saturating_add.ensures)

pub returns-in-GivenUp-clause-bound : goal.returns-in-GivenUp-clause-bound
returns-in-GivenUp-clause-bound c = λ q t. omega (arith, least_whole c.args.errand.now c.requires.errand q t, c.estimate-whole.ensures)
