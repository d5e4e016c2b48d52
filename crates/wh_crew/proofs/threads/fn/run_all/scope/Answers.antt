use Rattle.std.proofs.Common.{length, ◌∙◌}
use Rattle.wh_crew.proofs.Crews.{reported}
use Rattle.wh_crew.proofs.threads.fn.run_all.scope.Goals as goal

pub returns : goal.returns
returns g c = (
  c.join_all.ensures.count ∙ c.in_ok-handles.ensures.count,
  reported g.P.Plans.fits_map g.P.Plans.slot_count g.N.DeskName.origin.site.grid (length g.N.DeskName.cells) (λ h. h.promise.had.value) (λ h. h.promise.work.value) (λ r. r.pass) (λ r. r.missed) c.captures.works.items c.captures.passes.items c.in_ok-handles.handles.items c.join_all.result.items c.join_all.ensures.count c.in_ok-handles.ensures.due c.join_all.ensures.kept,
)
