use Rattle.std.proofs.Common.{◌∙◌, ap, sym}
use Rattle.wh_drive.specs.declared.vehicle.Vehicle.{Vehicle}
use Rattle.wh_order.proofs.Brought.{goes-step}
use Rattle.wh_order.proofs.visit_order.VisitOrder.come_by.Goals as goal

pub returns-in-Ok-clause-drive : goal.returns-in-Ok-clause-drive
returns-in-Ok-clause-drive c =
    let stands = ap (λ (v : Vehicle). v.reached) c.requires.stands ∙ sym (ap (λ (v : Vehicle). v.told) c.requires.stands) in
    goes-step c.args.self.now c.start.new.self c.come_in.new.self c.args.agent c.in-Ok.ensures.kept c.requires.known stands c.in-Ok.ensures.may c.in-Ok.ensures.ok c.come_in.ensures
