use Rattle.std.proofs.Crossing.{crosses}
use denote.Param.Send.{sendable}
use Rattle.wh_drills.proofs.Looking.{viewer_send}
use Rattle.wh_drills.proofs.gates.Watched.TheSendSync as watched
use Rattle.wh_drills.proofs.crews.beside_looks.Goals as goal

pub join-looked-requires-send-F : goal.join-looked-requires-send-F
join-looked-requires-send-F g c κs within = search (sendable, crosses, viewer_send, watched.the_sync) depth 30 fits 20000
