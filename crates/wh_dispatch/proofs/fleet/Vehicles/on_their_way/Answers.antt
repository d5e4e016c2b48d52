use Rattle.std.proofs.Common.{◌∙◌, ap, arith}
use Rattle.std.specs.List.{count_by}
use Rattle.std.proofs.lemmas.List.{take_all}
use Rattle.wh_dispatch.specs.Crews.{is_under_way}
use Rattle.wh_dispatch.proofs.Rows.{count_more}
use Rattle.wh_dispatch.proofs.fleet.Vehicles.on_their_way.Goals as goal

pub loop-agent-preserved : goal.loop-agent-preserved
loop-agent-preserved c =
    let vs = c.args.self.now.order.vehicles in
    let test = c.loop-agent-test.true in
    let count = c.agents-agent-end.ensures in
    let end = c.loop-agent.auto.agent-end in
    let more = count_more is_under_way vs c.loop-agent.agent (omega arith) in
    let one = c.under_way-count.ensures.value in
    let most = c.under_way-count.ensures.one in
    let before = c.loop-agent.invariant.is in
    let few = c.loop-agent.invariant.few in
    record { is = omega arith; few = omega arith }

pub returns : goal.returns
returns c =
    let vs = c.args.self.now.order.vehicles in
    let test = c.loop-agent-test.false in
    let count = c.agents-agent-end.ensures in
    let end = c.loop-agent.auto.agent-end in
    c.loop-agent.invariant.is ∙ ap (count_by is_under_way) (take_all c.loop-agent.agent vs (omega arith))
