use Rattle.std.proofs.Common.{arith}
use Rattle.wh_search.proofs.straight.find_straight.Goals as goal

pub returns-in-Longer-clause-found : goal.returns-in-Longer-clause-found
returns-in-Longer-clause-found c = λ q t left. (rw c.in-Longer.is at c.in_ok-path.ensures.outcome) q t

pub returns-in-GivenUp-clause-found : goal.returns-in-GivenUp-clause-found
returns-in-GivenUp-clause-found c = λ q t left.
    let none_left = (rw c.in-GivenUp.is at c.in_ok-path.ensures.outcome) (omega arith) in
    absurd (omega arith)
