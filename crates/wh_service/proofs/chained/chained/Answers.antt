-- A log more goes on, or decides.
use Rattle.std.proofs.Common.{subst, arith}
use Rattle.wh_service.specs.Chained.{NextTold}
use Rattle.wh_service.specs.declared.chained.Step.{Step}
use Rattle.wh_service.specs.declared.chained.Step.TheVariants.{On}
use Rattle.wh_service.proofs.chained.chained.Goals as goal

pub returns-in-Ok-Told-clause-ok : goal.returns-in-Ok-Told-clause-ok
returns-in-Ok-Told-clause-ok g c =
    let Is : Step → Type 0 = NextTold c.args.setting c.args.lines.now c.next_log.new.lines c.args.unended c.loop.reached.tally.logs in
    subst Is c.in-Ok-Told.field-0-is (c.in-Ok-Told.ensures.ok c.args.setting c.args.lines.now c.loop.invariant.reached)

pub loop-preserved : goal.loop-preserved
loop-preserved g c =
    let Is : Step → Type 0 = NextTold c.args.setting c.args.lines.now c.next_log.new.lines c.args.unended c.loop.reached.tally.logs in
    let next : Is (On c.in-Ok-On.on) = subst Is c.in-Ok-On.field-0-is (c.in-Ok-On.ensures.ok c.args.setting c.args.lines.now c.loop.invariant.reached) in
    record { reached = next.0; logs_are = omega (arith, next.1, c.loop.invariant.logs_are) }
