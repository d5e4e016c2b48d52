use Rattle.std.proofs.Common.{◌<◌, ◌++◌, ◌∷◌, ◌∙◌, [], List, length, take, ap, sym, arith}
use Rattle.std.proofs.lemmas.List.{take_more, take_all}
use Rattle.wh_grid.specs.declared.cell.Cell.{Cell}
use Rattle.wh_path.proofs.AtLemmas.{origin}
use Rattle.wh_vehicles.specs.Plans.{places}
use Rattle.wh_vehicles.proofs.Planning.{size, at-place}
use Rattle.wh_dispatch.proofs.fleet.row_of.Goals as goal

pub loop-agent-preserved : goal.loop-agent-preserved
loop-agent-preserved g c =
    let s = c.args.warehouse.now.book.state in
    let agent = c.loop-agent.agent in
    let cells = size s in
    let count = c.agents-agent-end.ensures.value in
    let end = c.loop-agent.auto.agent-end in
    let test = c.loop-agent-test.true in
    let l : agent < length s.paths = omega arith in
    c.in_ok-push.ensures.items ∙ ap (λ (row : List Cell). row ++ c.cell.result ∷ []) c.loop-agent.invariant
    ∙ ap (λ (x : Cell). take agent (places s) ++ x ∷ []) (c.cell.ensures ∙ sym (at-place s agent l)) ∙ sym (take_more (places s) agent origin (omega arith))

pub returns : goal.returns
returns g c =
    let s = c.args.warehouse.now.book.state in
    let cells = size s in
    let count = c.agents-agent-end.ensures.value in
    let end = c.loop-agent.auto.agent-end in
    let test = c.loop-agent-test.false in
    c.loop-agent.invariant ∙ take_all c.loop-agent.agent (places s) (omega arith)
