use Rattle.std.proofs.Common.{◌<◌, ◌∙◌, refl, length, sym, subst, arith}
use Rattle.wh_order.specs.Bringing.{IsTooEarly}
use Rattle.wh_order.proofs.Brought.{goes-nowhere, goes-further, too-early, one-along, less-left}
use Rattle.wh_order.proofs.visit_order.VisitOrder.bring.Goals as goal

pub loop-agent-init : goal.loop-agent-init
loop-agent-init c = record {
  size = c.requires.stand.all;
  clock = refl;
  along = λ i h. absurd (omega arith);
  left = λ i g h. c.requires.stand.each i h;
  drive = λ d r. goes-nowhere d c.args.self.now r;
}

pub returns-in-Err-clause-drive : goal.returns-in-Err-clause-drive
returns-in-Err-clause-drive c = λ d r.
    goes-further d c.loop-agent.self c.come_by.new.self (c.loop-agent.invariant.drive d r) c.come_by.ensures.drive

pub returns-in-Err-clause-err : goal.returns-in-Err-clause-err
returns-in-Err-clause-err c = λ d r rule.
    let o = c.loop-agent.self in
    let steps = c.args.steps.now in
    let why = c.in-Err.ensures.err in
    let clock = c.loop-agent.invariant.clock in
    let some = c.requires.some in
    let test = c.loop-agent-test.true in
    let size = c.loop-agent.invariant.size in
    let known : c.loop-agent.agent < length steps = omega arith in
    subst (IsTooEarly d steps) (sym why.0)
    (too-early d o steps c.loop-agent.agent (c.loop-agent.invariant.drive d r) rule (omega arith) size known why.1 c.loop-agent.invariant.along c.loop-agent.invariant.left why.2)

pub loop-agent-preserved : goal.loop-agent-preserved
loop-agent-preserved c =
    let o = c.loop-agent.self in
    let new = c.come_by.new.self in
    let steps = c.args.steps.now in
    let inv = c.loop-agent.invariant in
    let came = c.in_default.ensures in
    record {
      size = came.size ∙ inv.size;
      clock = came.clock ∙ inv.clock;
      along = one-along o new steps c.loop-agent.agent came.clock inv.along came.others came.ok;
      left = less-left o new steps c.loop-agent.agent came.clock inv.left came.others;
      drive = λ d r. goes-further d o new (inv.drive d r) came.drive;
    }
