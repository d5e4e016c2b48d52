use Rattle.std.proofs.Common.{◌∙◌, ◌<◌, List, length, map, ap, arith}
use Rattle.std.proofs.lemmas.List.{take_all}
use Rattle.wh_drive.specs.declared.vehicle.Vehicle.{Vehicle}
use Rattle.wh_service.proofs.Stood.{one_step_more}
use Rattle.wh_service.proofs.standing.steps_of.Goals as goal

pub loop-agent-preserved : goal.loop-agent-preserved
loop-agent-preserved c =
    let vehicles = c.args.order.now.vehicles in
    let within : c.loop-agent.agent < length vehicles = (let test = c.loop-agent-test.true in let agents = c.agents-agent-end.ensures in omega (arith, test, agents)) in
    c.in_ok-push.ensures.items ∙ one_step_more vehicles c.loop-agent.steps.items c.loop-agent.agent c.vehicle.result.reached within c.loop-agent.invariant (ap (λ (v : Vehicle). v.reached) c.vehicle.ensures.value)

pub returns : goal.returns
returns c =
    let vehicles = c.args.order.now.vehicles in
    let whole = take_all c.loop-agent.agent vehicles (let test = c.loop-agent-test.false in let agents = c.agents-agent-end.ensures in omega (arith, test, agents)) in
    c.loop-agent.invariant ∙ ap (λ (vs : List Vehicle). map (λ (v : Vehicle). v.reached) vs) whole
