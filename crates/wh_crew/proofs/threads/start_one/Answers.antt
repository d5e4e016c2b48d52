use Rattle.std.proofs.Crossing.{crosses}
use denote.Param.Send.{sendable, given_send}
use Rattle.wh_desk.proofs.Sharing.{desk_sync, pass_send}
use Rattle.wh_crew.proofs.Sending.{work_send}
use Rattle.wh_crew.proofs.threads.start_one.Goals as goal

pub spawn_with-started-requires-send-F : goal.spawn_with-started-requires-send-F
spawn_with-started-requires-send-F g c κs within =
    let n = c.type_bounds.send-N in
    let m = c.type_bounds.sync-N in
    let h = c.type_bounds.send-H in
    let k = c.type_bounds.sync-H in
    let p = c.type_bounds.send-P in
    let r = c.type_bounds.sync-R in
    let t = c.type_bounds.sync-G in
    search (sendable, crosses, desk_sync, pass_send, work_send, given_send) depth 30 fits 20000

pub spawn_with-started-requires-send-T : goal.spawn_with-started-requires-send-T
spawn_with-started-requires-send-T g c κs within =
    let n = c.type_bounds.send-N in
    let m = c.type_bounds.sync-N in
    search (sendable, crosses, pass_send, given_send) depth 30 fits 20000
