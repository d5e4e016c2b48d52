use Rattle.std.proofs.Crossing.{crosses}
use denote.Param.Send.{sendable, given_send}
use Rattle.wh_desk.proofs.Sharing.{desk_sync, pass_send}
use Rattle.wh_drills.proofs.callers.in_two_threads.Goals as goal

pub join-requires-send-F : goal.join-requires-send-F
join-requires-send-F g c κs within =
    let n = c.type_bounds.send-N in
    let m = c.type_bounds.sync-N in
    let h = c.type_bounds.send-H in
    let k = c.type_bounds.sync-H in
    let p = c.type_bounds.send-P in
    let r = c.type_bounds.sync-R in
    search (sendable, crosses, desk_sync, pass_send, given_send) depth 30 fits 20000

pub join-requires-send-A : goal.join-requires-send-A
join-requires-send-A g c κs within =
    let n = c.type_bounds.send-N in
    let m = c.type_bounds.sync-N in
    search (sendable, crosses, pass_send, given_send) depth 30 fits 20000
