use Rattle.std.proofs.Common.{◌≡◌, ◌<◌, ◌≤◌, ◌∙◌, max, length, refl, sym, ap, arith}
use Rattle.wh_drive.specs.declared.vehicle.Vehicle.{Vehicle}
use Rattle.wh_drive.specs.Drives.{reached, told}
use Rattle.wh_order.proofs.Asking.{vehicles-size, reached-same, told-same}
use Rattle.wh_vehicles.proofs.Arriving.{came-nowhere, came-further, has-arrived}
use Rattle.wh_vehicles.proofs.driving.answer_report.Goals as goal

pub loop-step-init : goal.loop-step-init
loop-step-init c = record {
  came = λ d r.
      let o = c.args.order.now in
      let agent = c.args.report.agent in
      let size = vehicles-size o d r in
      let count = c.agents.ensures in
      let here : reached d agent ≡ c.vehicle-vehicle.result.reached = sym (reached-same o d agent r) ∙ sym (ap (λ (v : Vehicle). v.reached) c.vehicle-vehicle.ensures.value) in
      came-nowhere d agent c.vehicle-vehicle.result.reached o r (omega arith) here;
  no_further = omega arith;
}

pub loop-step-preserved : goal.loop-step-preserved
loop-step-preserved c = record {
  came = λ d r.
      let o = c.args.order.now in
      let agent = c.args.report.agent in
      let far : c.vehicle-vehicle.result.told ≡ told d agent = ap (λ (v : Vehicle). v.told) c.vehicle-vehicle.ensures.value ∙ told-same o d agent r in
      let test = c.loop-step-test.true in
      let was = c.if-report-vehicle.false in
      came-further d agent c.loop-step.step c.loop-step.order c.arrive.new.self c.arrive.result (c.loop-step.invariant.came d r) (omega arith) c.arrive.ensures.drive c.arrive.ensures.err;
  no_further = (let test = c.loop-step-test.true in omega arith);
}

pub returns : goal.returns
returns c = λ d r.
    let o = c.args.order.now in
    let agent = c.args.report.agent in
    let size = vehicles-size o d r in
    let count = c.agents.ensures in
    let here : c.vehicle-vehicle.result.reached ≡ reached d agent = ap (λ (v : Vehicle). v.reached) c.vehicle-vehicle.ensures.value ∙ reached-same o d agent r in
    let far : c.vehicle-vehicle.result.told ≡ told d agent = ap (λ (v : Vehicle). v.told) c.vehicle-vehicle.ensures.value ∙ told-same o d agent r in
    let known : agent < length d.vehicles = omega arith in
    let was_told : c.args.report.step ≤ told d agent = omega arith in
    let test = c.loop-step-test.false in
    let since = c.loop-step.auto.step in
    let most = c.loop-step.invariant.no_further in
    let last : c.loop-step.step ≡ max (reached d agent) c.args.report.step = omega arith in
    let came = c.loop-step.invariant.came d r in
    (came.end, (refl, refl, known, was_told, has-arrived d agent c.loop-step.step c.args.report.step c.loop-step.order came last), came.represents)
