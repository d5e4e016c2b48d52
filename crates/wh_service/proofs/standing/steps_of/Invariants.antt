use Rattle.std.proofs.Common.{◌≡◌, map, take}
use Rattle.wh_drive.specs.declared.vehicle.Vehicle.{Vehicle}
use Rattle.wh_service.proofs.standing.steps_of.Given as goal

abbrev pub invariant-loop-agent : goal.invariant-loop-agent
invariant-loop-agent l = l.steps.items ≡ map (λ (v : Vehicle). v.reached) (take l.agent l.order.vehicles)
