use Rattle.std.proofs.Common.{rules, subst}
use Rattle.wh_log.specs.Places.{Stands}
use Rattle.wh_log.proofs.Growing.{tells_next}
use Rattle.wh_log.proofs.tell_entries.tell_lines.Goals as goal

pub loop-entry-preserved : goal.loop-entry-preserved
loop-entry-preserved g c =
    let place = subst (λ p. Stands c.args.version c.loop-entry.entries c.loop-entry.rest.now p) c.in-Next.is c.in_ok-entry.ensures in (
      place.2,
      tells_next g.J.Judge.opens g.J.Judge.steps c.args.version c.args.entries c.args.judge.now c.args.text.now c.loop-entry.entries c.loop-entry.judge c.loop-entry.rest.now c.in-Next.entry c.in-Next.after.now c.step.new.self
          c.loop-entry.invariant.1 place.0 place.1 place.2 (c.in_ok-step-in-Next.ensures.yes (search rules)),
    )
