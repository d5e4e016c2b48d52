use Rattle.std.proofs.Common.{rules, ◌≡◌, [], ◌∷◌, ◌++◌, length, ap, subst, sym, ◌∙◌, append_assoc}
use Rattle.std.specs.Vec.Iter.{into_iter_items}
use Rattle.wh_crew.specs.declared.worker.Missed.{Missed}
use Rattle.wh_crew.proofs.Calls.{Working, working_nothing, working_more}
use Rattle.wh_crew.proofs.worker.work_through.Goals as goal

pub loop-command-init : goal.loop-command-init
loop-command-init g c = (search rules, working_nothing g.P.Plans.fits_map g.P.Plans.slot_count g.N.DeskName.origin.site.grid (length g.N.DeskName.cells) c.args.work.spares.items c.args.pass.now)

pub loop-command-preserved : goal.loop-command-preserved
loop-command-preserved g c =
    let done = c.loop-command.yielded in
    let left = into_iter_items c.next.new.self in
    let x = c.in-Some.command in
    let all : (done ++ x ∷ []) ++ left ≡ c.args.work.commands.items = append_assoc done (x ∷ []) left ∙ ap (λ l. done ++ l) (sym c.in-Some.ensures.steps.0) ∙ c.loop-command.invariant.0 in (
      all,
      subst (λ (n : Missed). Working g.P.Plans.fits_map g.P.Plans.slot_count g.N.DeskName.origin.site.grid (length g.N.DeskName.cells) (done ++ x ∷ []) c.args.work.spares.items c.args.pass.now c.try_one-why.new.pass n c.try_one-why.new.spares.items) (sym c.counted-missed.ensures)
          (working_more g.P.Plans.fits_map g.P.Plans.slot_count g.N.DeskName.origin.site.grid (length g.N.DeskName.cells) c.args.work.spares.items done c.args.pass.now c.loop-command.pass c.loop-command.missed c.loop-command.spares.items x c.try_one-why.result c.try_one-why.new.pass c.try_one-why.new.spares.items c.loop-command.invariant.1 c.try_one-why.ensures),
    )
