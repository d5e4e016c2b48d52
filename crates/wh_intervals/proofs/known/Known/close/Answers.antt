use Rattle.std.proofs.Common.{arith}
use Rattle.wh_intervals.specs.Told.{whole, front}
use Rattle.wh_intervals.proofs.known.Known.close.Goals as goal
use Rattle.wh_intervals.proofs.known.Known.close.Goals.{in-None, in-Some+else-since-node}

pub returns-clause-rest : goal.returns-clause-rest
returns-clause-rest c = elim c.match-self.branch [
  | in-None w ↦ whole w.in-None.is w.last-is
  | in-Some+else-since-node w ↦ (let late = w.if-since-node.false in let l = w.last-is in front w.in-Some.since w.in-Some.is (omega arith) (omega arith))
]
