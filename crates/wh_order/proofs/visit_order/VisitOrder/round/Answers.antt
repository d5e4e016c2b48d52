use Rattle.std.proofs.Common.{◌≡◌, ◌<◌, ◌∙◌, inl, inr, true, false, sym, subst, ap, arith}
use Rattle.std.proofs.lemmas.Bool.{cases_lt}
use Rattle.wh_drive.specs.Drives.{MayStart}
use Rattle.wh_order.specs.Orders.{Order, Represents}
use Rattle.wh_order.specs.Settling.{Passes, to_go}
use Rattle.wh_order.proofs.Settled.{settles-more}
use Rattle.wh_order.proofs.visit_order.VisitOrder.round.Goals as goal
use Rattle.wh_order.proofs.visit_order.VisitOrder.round.Goals.{then-branch, else-branch}

pub loop-agent-preserved : goal.loop-agent-preserved
loop-agent-preserved c =
    let o = c.loop-agent.self in
    let new = c.advance.new.self in
    let agent = c.loop-agent.agent in
    let inv = c.loop-agent.invariant in
    let adv = c.in_ok-advance.ensures in
    let most = inv.no_more in
    elim c.if-branch.branch [
      | then-branch w ↦
          let one : to_go new < to_go o = adv.less w.if-branch.true in
          record {
            size = adv.size ∙ inv.size;
            drive = λ d r. settles-more d o new c.args.told.now.items c.loop-agent.told.items c.advance.new.told.items (inv.drive d r) adv.drive;
            no_more = omega arith;
            less = λ is. omega arith;
            none = λ is. absurd (let f : true ≡ false = sym w.moved-is ∙ is in cc);
          }
      | else-branch w ↦
          let same : new ≡ o = adv.same w.if-branch.false in
          let count : to_go new ≡ to_go o = ap to_go same in
          record {
            size = adv.size ∙ inv.size;
            drive = λ d r. settles-more d o new c.args.told.now.items c.loop-agent.told.items c.advance.new.told.items (inv.drive d r) adv.drive;
            no_more = omega arith;
            less = λ is. (let l = inv.less (sym w.moved-is ∙ is) in omega arith);
            none = λ is d r i h.
                let r' : Represents o d = subst (λ (s : Order). Represents s d) same r in
                elim (cases_lt i agent) [
                  | inl l ↦ inv.none (sym w.moved-is ∙ is) d r' i l
                  | inr g ↦ (let e : agent ≡ i = omega arith in subst (λ k. (¬ MayStart d k) × (¬ Passes d k)) e (adv.none w.if-branch.false d r'))
                ];
          }
    ]
