use Rattle.std.proofs.Common.{◌≡◌, length, subst, arith}
use Rattle.wh_search.specs.Waits.{NoneComesSooner}
use Rattle.wh_search.proofs.Sooner.{none_at_first, none_at_next, none_ends}
use Rattle.wh_search.proofs.errand.Errand.least_by_stops.Goals as goal

pub loop-leg-init : goal.loop-leg-init
loop-leg-init c = none_at_first c.args.self.now

pub loop-leg-preserved : goal.loop-leg-preserved
loop-leg-preserved c =
    none_at_next c.args.self.now c.loop-leg.leg c.loop-leg.from c.loop-leg.time c.visit_from-time.result c.requires.errand c.loop-leg-test.true c.loop-leg.invariant
    (λ j since may. c.visit_from-time.ensures j (omega (arith, c.saturating_add.ensures, c.saturating_sub-steps.ensures, c.estimate.ensures, c.estimate-left.ensures)) may)

pub returns : goal.returns
returns c = λ q t.
    let few = c.requires.errand.arrives.few in
    let leg : c.loop-leg.leg ≡ length c.args.self.now.via.now = omega (arith, c.loop-leg-test.false) in
    let none = subst (λ l. NoneComesSooner c.args.self.now l c.loop-leg.from c.loop-leg.time) leg c.loop-leg.invariant in
    omega (arith, none_ends c.args.self.now c.loop-leg.from c.loop-leg.time q c.requires.errand none t, c.saturating_add-2.ensures, c.estimate-2.ensures)
