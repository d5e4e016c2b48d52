use Rattle.std.proofs.Common.{arith}
use Rattle.wh_search.proofs.Ways.{none_far}
use Rattle.wh_search.proofs.straight.look.Goals as goal
use Rattle.wh_search.proofs.straight.look.Goals.{then-whole-errand-via-then-whole-errand, then-whole-errand-via-else-whole-errand+then-whole-errand-2}

pub returns-then-whole-errand-clause-outcome : goal.returns-then-whole-errand-clause-outcome
returns-then-whole-errand-clause-outcome c = λ q t. elim c.then-whole-errand.branch [
  | then-whole-errand-via-then-whole-errand w ↦ absurd (none_far c.args.errand.now c.requires.errand (let far = w.if-whole-errand.true in let is = c.estimate-whole.ensures in omega arith) q t)
  | then-whole-errand-via-else-whole-errand+then-whole-errand-2 w ↦ omega (arith, w.if-whole-errand-2.true, c.estimate-whole.ensures, c.requires.errand.none_before q t)
]
