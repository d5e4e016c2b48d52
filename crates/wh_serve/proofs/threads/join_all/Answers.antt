use Rattle.std.proofs.Common.{◌≡◌, [], ◌+◌, length, ◌∷◌, ◌++◌, drop, Some, slice_get, ap, sym, ◌∙◌, arith, subst}
use Rattle.std.proofs.lemmas.List.{length_push}
use Rattle.std.proofs.lemmas.Option.{same_Some}
use Rattle.std.specs.Vec.Iter.{into_iter_items}
use Rattle.wh_desk.specs.Lists.{AllAt}
use Rattle.wh_desk.proofs.Entries.{AllAt_push}
use Rattle.wh_crew.proofs.Places.{drop_head}
use Rattle.wh_serve.specs.Texts.{InEach, receipt_text}
use Rattle.wh_serve.specs.Rows.{Attended}
use Rattle.wh_serve.proofs.threads.join_all.Goals as goal

pub loop-handle-preserved : goal.loop-handle-preserved
loop-handle-preserved g c =
    let inv = c.loop-handle.invariant in
    let handles = c.args.handles.items in
    let rs = c.loop-handle.reports.items in
    let k = length rs in
    let r = c.join.result in
    let pushed : c.push_reserved.new.self.items ≡ rs ++ r ∷ [] = c.push_reserved.ensures.items in
    let more : length c.push_reserved.new.self.items ≡ k + 1 = ap length pushed ∙ length_push rs r in
    let next = drop_head handles k c.in-Some.handle (into_iter_items c.next.new.self) (sym c.in-Some.ensures.steps.0 ∙ inv.1) in (
      omega (arith, more, inv.0, c.in-Some.ensures.steps.1),
      next.1 ∙ ap (λ n. drop n handles) (sym more),
      omega (arith, c.push_reserved.ensures.capacity, inv.2),
      subst (λ l. AllAt (λ i y. (h : _) → slice_get handles i ≡ Some h → InEach y.pass.known (λ history. Attended (length g.N.DeskName.cells) g.P.Plans.fits_map g.P.Plans.slot_count g.N.DeskName.origin.site.grid (receipt_text h.promise.form g.N.DeskName.origin history) (λ x. g.R.Read.remaining x) (λ x. g.W.Write.contents x) h.promise.client.value h.promise.had.value y.pass y.connections)) l) (sym pushed)
          (AllAt_push (λ i y. (h : _) → slice_get handles i ≡ Some h → InEach y.pass.known (λ history. Attended (length g.N.DeskName.cells) g.P.Plans.fits_map g.P.Plans.slot_count g.N.DeskName.origin.site.grid (receipt_text h.promise.form g.N.DeskName.origin history) (λ x. g.R.Read.remaining x) (λ x. g.W.Write.contents x) h.promise.client.value h.promise.had.value y.pass y.connections)) rs r inv.3
          (λ h at. subst (λ z. InEach r.pass.known (λ history. Attended (length g.N.DeskName.cells) g.P.Plans.fits_map g.P.Plans.slot_count g.N.DeskName.origin.site.grid (receipt_text z.promise.form g.N.DeskName.origin history) (λ x. g.R.Read.remaining x) (λ x. g.W.Write.contents x) z.promise.client.value z.promise.had.value r.pass r.connections)) (same_Some _ _ (sym next.0 ∙ at)) c.join.ensures)),
    )
