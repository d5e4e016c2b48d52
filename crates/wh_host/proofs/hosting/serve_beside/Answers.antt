use Rattle.std.proofs.Crossing.{crosses}
use denote.Param.Send.{sendable, given_send}
use Rattle.wh_desk.proofs.Sharing.{desk_sync, pass_send}
use Rattle.wh_scribe.proofs.Sharing.{scribe_sync}
use Rattle.wh_host.proofs.Sending.{bell_sync}
use Rattle.wh_host.proofs.hosting.serve_beside.Goals as goal

pub join-paced-requires-send-F : goal.join-paced-requires-send-F
join-paced-requires-send-F g c κs within =
    let n = c.type_bounds.send-N in
    let m = c.type_bounds.sync-N in
    let a = c.type_bounds.send-S in
    let b = c.type_bounds.sync-S in
    let j = c.type_bounds.send-J in
    let h = c.type_bounds.send-H in
    let k = c.type_bounds.sync-H in
    let p = c.type_bounds.send-P in
    let x = c.type_bounds.sync-X in
    let t = c.type_bounds.sync-D in
    search (sendable, crosses, desk_sync, scribe_sync, pass_send, bell_sync, given_send) depth 30 fits 20000

pub join-paced-requires-send-A : goal.join-paced-requires-send-A
join-paced-requires-send-A g c κs within =
    let n = c.type_bounds.send-N in
    let m = c.type_bounds.sync-N in
    search (sendable, crosses, pass_send, given_send) depth 30 fits 20000
