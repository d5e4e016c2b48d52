use Rattle.std.proofs.Crossing.{crosses}
use denote.Param.Send.{sendable, given_send}
use Rattle.wh_desk.proofs.Sharing.{desk_sync, pass_send}
use Rattle.wh_drills.proofs.boards.looks_beside.Goals as goal

pub join-met-requires-send-F : goal.join-met-requires-send-F
join-met-requires-send-F g c κs within =
    let n = c.type_bounds.send-N in
    let m = c.type_bounds.sync-N in
    let h = c.type_bounds.send-H in
    let k = c.type_bounds.sync-H in
    let p = c.type_bounds.send-P in
    let r = c.type_bounds.sync-R in
    search (sendable, crosses, desk_sync, pass_send, given_send) depth 30 fits 20000
