use Rattle.std.proofs.Common.{◌∙◌, List, subst}
use Rattle.wh_drive.specs.declared.vehicle.Vehicle.{Vehicle}
use Rattle.wh_order.specs.Orders.{IsPlaced}
use Rattle.wh_order.proofs.Resuming.{are-steps, represents-placed}
use Rattle.wh_order.proofs.visit_order.VisitOrder.resume.Goals as goal

pub place_all-requires : goal.place_all-requires
place_all-requires c =
    are-steps c.in_ok-order.order c.args.plan.now c.in_ok-vehicles.vehicles.items c.in_ok-order.ensures c.keeps_order.ensures.sound
    (c.in_ok-vehicles.ensures.items ∙ c.vehicles.ensures)

pub returns : goal.returns
returns c =
    let vehicles = c.in_ok-vehicles.ensures.items ∙ c.vehicles.ensures in
    represents-placed c.in_ok-order.order c.place_all.new.self c.args.plan.now c.in_ok-order.ensures c.keeps_order.ensures.sound
    (subst (λ (vs : List Vehicle). IsPlaced c.in_ok-order.order c.place_all.new.self vs) vehicles c.place_all.ensures)
