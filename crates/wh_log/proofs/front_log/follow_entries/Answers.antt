use Rattle.std.proofs.Common.{rules, refl, sym, subst, false}
use Rattle.wh_log.specs.Behinds.{RecoversOn}
use Rattle.wh_log.specs.declared.front_log.Front.TheVariants.{Whole}
use Rattle.wh_log.proofs.Sources.{reads_further, reads_none}
use Rattle.wh_log.proofs.Growing.{follows_start, follows_on, follows_bad, follows_whole}
use Rattle.wh_log.proofs.front_log.follow_entries.Goals as goal

pub loop-init : goal.loop-init
loop-init g c = (refl, follows_start g.J.Judge.opens g.J.Judge.steps (g.S.Source.held c.args.source.now) c.args.version c.args.window.now.place c.args.window.now.bytes.items c.args.judge.now)

pub returns-then-is_bad-clause-front : goal.returns-then-is_bad-clause-front
returns-then-is_bad-clause-front g c =
    let told = c.in_ok-entries.field-0 in
    follows_bad g.J.Judge.opens g.J.Judge.steps (g.S.Source.held c.args.source.now) c.args.version c.args.window.now.place c.args.window.now.bytes.items c.args.judge.now
    c.loop.ended c.loop.window.place c.loop.window.bytes.items c.loop.count c.loop.judge c.loop.invariant.1 told.entries c.tell_lines.new.judge told.rest.now
    (rw (← c.as_slice.ensures.value) c.in_ok-entries.ensures.on) c.bad_front.result told.stop g.met.J.Judge.one_opening g.met.J.Judge.one_step (search rules) c.in_ok-entries.ensures.stops c.bad_front.ensures

pub loop-preserved : goal.loop-preserved
loop-preserved g c =
    let told = c.in_ok-entries.field-0 in (
      search rules,
      follows_on g.J.Judge.opens g.J.Judge.steps (g.S.Source.held c.args.source.now) c.args.version c.args.window.now.place c.args.window.now.bytes.items c.args.judge.now
          c.loop.ended c.loop.window.place c.loop.window.bytes.items c.loop.count c.loop.judge c.loop.invariant.1 told.entries c.tell_lines.new.judge told.rest.now
          (rw (← c.as_slice.ensures.value) c.in_ok-entries.ensures.on) c.in_ok-ended.ended c.read_on.new.window.place c.read_on.new.window.bytes.items c.in_ok-entries.ensures.few
          (reads_further _ _ c.loop.window.place told.rest.now c.loop.window.place told.rest.now _ _ false c.in_ok-ended.ended c.in_ok-ended.ended c.loop.invariant.0 refl (reads_none _ _ _) (rw (← c.in_ok-left.ensures.items) c.in_ok-ended.ensures.ok)),
    )

pub returns-then-ended-clause-front : goal.returns-then-ended-clause-front
returns-then-ended-clause-front g c =
    let told = c.in_ok-entries.field-0 in
    subst (λ n. RecoversOn g.J.Judge.opens g.J.Judge.steps (g.S.Source.held c.args.source.now) c.args.version c.args.window.now.place c.args.window.now.bytes.items c.args.judge.now c.tell_lines.new.judge (Whole c.args.version told.entries n c.eq.result)) (sym c.saturating_sub.ensures)
    (follows_whole g.J.Judge.opens g.J.Judge.steps (g.S.Source.held c.args.source.now) c.args.version c.args.window.now.place c.args.window.now.bytes.items c.args.judge.now
    c.loop.ended c.loop.window.place c.loop.window.bytes.items c.loop.count c.loop.judge c.loop.invariant.1 told.entries c.tell_lines.new.judge told.rest.now
    (rw (← c.as_slice.ensures.value) c.in_ok-entries.ensures.on) told.stop c.eq.result (λ e. search rules) (λ e. search rules) (search rules) (search rules) c.in_ok-entries.ensures.stops)
