use Rattle.std.proofs.Common.{◌∙◌, arith}
use Rattle.std.proofs.lemmas.List.{length-set}
use Rattle.wh_dispatch.proofs.Rows.{is_row, row_more}
use Rattle.wh_dispatch.proofs.fleet.write_row.Goals as goal

pub loop-agent-preserved : goal.loop-agent-preserved
loop-agent-preserved g c =
    let s = c.args.warehouse.now.book.state in
    let count = c.agents-agent-end.ensures.value in
    let end = c.loop-agent.auto.agent-end in
    let test = c.loop-agent-test.true in
    let many = c.loop-agent.invariant.many in
    record {
      many = length-set c.loop-agent.row.items c.loop-agent.agent c.cell.result ∙ many;
      there = row_more s c.loop-agent.row.items c.loop-agent.agent c.cell.result (omega arith) c.cell.ensures c.loop-agent.invariant.there;
    }

pub returns : goal.returns
returns g c =
    let s = c.args.warehouse.now.book.state in
    let count = c.agents-agent-end.ensures.value in
    let end = c.loop-agent.auto.agent-end in
    let test = c.loop-agent-test.false in
    is_row s c.loop-agent.row.items c.loop-agent.invariant.many (λ k h. c.loop-agent.invariant.there k (omega arith))
