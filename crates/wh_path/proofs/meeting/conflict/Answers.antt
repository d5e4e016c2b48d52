use Rattle.std.proofs.Common.{arith}
use Rattle.wh_path.proofs.AtLemmas.{free_for_ever}
use Rattle.wh_path.proofs.meeting.conflict.Goals as goal

pub returns-clause-free : goal.returns-clause-free
returns-clause-free c = free_for_ever c.args.nofollow c.args.p.now c.args.q.now c.loop-k.k (omega arith) (omega arith) c.loop-k.invariant
