use Rattle.std.proofs.Common.{◌≡◌, Bool, refl}
use Rattle.wh_lines.proofs.Written.{on_err_of}
use Rattle.wh_order.specs.Orders.{Order}
use Rattle.wh_dispatch.proofs.fleet.Vehicles.reserve.Goals as goal

pub returns-in_err-self-inside-clause-err : goal.returns-in_err-self-inside-clause-err
returns-in_err-self-inside-clause-err g c =
    let o : Order = c.args.self.now.order in
    let same : (ready : Bool) × (o ≡ record o { ready = ready }) = (o.ready, refl) in
    on_err_of _ same
