use Rattle.std.proofs.Common.{◌≡◌, [], ◌+◌, length, ◌∷◌, ◌++◌, drop, Some, slice_get, ap, sym, ◌∙◌, arith, subst}
use Rattle.std.proofs.lemmas.List.{length_push}
use Rattle.std.proofs.lemmas.Option.{same_Some}
use Rattle.std.specs.Vec.Iter.{into_iter_items}
use Rattle.wh_desk.specs.Lists.{AllAt}
use Rattle.wh_desk.proofs.Entries.{AllAt_push}
use Rattle.wh_crew.specs.Work.{Worked}
use Rattle.wh_crew.proofs.Places.{drop_head}
use Rattle.wh_crew.proofs.threads.join_all.Goals as goal

pub loop-handle-preserved : goal.loop-handle-preserved
loop-handle-preserved g c =
    let inv = c.loop-handle.invariant in
    let handles = c.args.handles.items in
    let rs = c.loop-handle.reports.items in
    let k = length rs in
    let r = c.join.result in
    let pushed : c.push_reserved.new.self.items ≡ rs ++ r ∷ [] = c.push_reserved.ensures.items in
    let more : length c.push_reserved.new.self.items ≡ k + 1 = ap length pushed ∙ length_push rs r in
    let next = drop_head handles k c.in-Some.handle (into_iter_items c.next.new.self) (sym c.in-Some.ensures.steps.0 ∙ inv.1) in (
      omega (arith, more, inv.0, c.in-Some.ensures.steps.1),
      next.1 ∙ ap (λ n. drop n handles) (sym more),
      omega (arith, c.push_reserved.ensures.capacity, inv.2),
      subst (λ l. AllAt (λ i y. (h : _) → slice_get handles i ≡ Some h → Worked g.P.Plans.fits_map g.P.Plans.slot_count g.N.DeskName.origin.site.grid (length g.N.DeskName.cells) h.promise.work.value.commands.items h.promise.work.value.spares.items h.promise.had.value y.pass y.missed) l) (sym pushed)
          (AllAt_push (λ i y. (h : _) → slice_get handles i ≡ Some h → Worked g.P.Plans.fits_map g.P.Plans.slot_count g.N.DeskName.origin.site.grid (length g.N.DeskName.cells) h.promise.work.value.commands.items h.promise.work.value.spares.items h.promise.had.value y.pass y.missed) rs r inv.3
          (λ h at. subst (λ z. Worked g.P.Plans.fits_map g.P.Plans.slot_count g.N.DeskName.origin.site.grid (length g.N.DeskName.cells) z.promise.work.value.commands.items z.promise.work.value.spares.items z.promise.had.value r.pass r.missed) (same_Some _ _ (sym next.0 ∙ at)) c.join.ensures)),
    )
