use Rattle.std.proofs.Common.{IsTrue, true, arith, rules}
use Rattle.wh_drive.proofs.execution.Execution.none_enters.Goals as goal

all : IsTrue true
all = search rules

pub returns : goal.returns
returns c = (
  λ t i j hi hj ne there. c.loop-agent.invariant j (omega arith) (record { other = i; within = hi; differ = ne; there = there }),
  λ none. all,
)
