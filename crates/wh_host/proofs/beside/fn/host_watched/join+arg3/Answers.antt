use Rattle.wh_host.proofs.Boards.{if_four}
use Rattle.wh_host.proofs.beside.fn.host_watched.join+arg3.Goals as goal

pub returns : goal.returns
returns g c =
    let done = c.host_and_ring.ensures in
    (if_four c.host_and_ring.result done.leaves done.origin done.book done.past (λ h leaves origin book past. (leaves, origin, book, past)), done.fault)
