-- Work may cross to another thread, where its planners may.
use denote.RattleType.{RattleType}
use denote.Param.Send.{IsSend, sendable}
use Rattle.std.proofs.Crossing.{crosses}
use Rattle.wh_edge.specs.contracts.work.Work as work

pub work_send : (P : RattleType) → IsSend P → IsSend (work.the_row P)
work_send P p = search (sendable, crosses) depth 60 fits 20000
