use Rattle.std.proofs.Common.{◌∙◌, subst, length}
use Rattle.wh_serve.specs.Texts.{InEach, receipt_text}
use Rattle.wh_serve.specs.Rows.{Attended}
use Rattle.wh_serve.proofs.Hosts.{reported}
use Rattle.wh_serve.proofs.threads.fn.run_all.scope.Goals as goal

pub returns : goal.returns
returns g c =
    let told = receipt_text c.captures.form g.N.DeskName.origin in (
      c.join_all.ensures.count ∙ c.in_ok-handles.ensures.count,
      reported (λ d had has n. InEach has.known (λ history. Attended (length g.N.DeskName.cells) g.P.Plans.fits_map g.P.Plans.slot_count g.N.DeskName.origin.site.grid (told history) (λ x. g.R.Read.remaining x) (λ x. g.W.Write.contents x) d had has n)) (λ h. h.promise.client.value) (λ h. h.promise.had.value) (λ r. r.pass) (λ r. r.connections) c.captures.clients.items c.captures.passes.items c.in_ok-handles.handles.items c.join_all.result.items
          c.join_all.ensures.count (λ i h at. (c.in_ok-handles.ensures.due i h at).0)
          (λ i r at h here. subst (λ f. InEach r.pass.known (λ history. Attended (length g.N.DeskName.cells) g.P.Plans.fits_map g.P.Plans.slot_count g.N.DeskName.origin.site.grid (receipt_text f g.N.DeskName.origin history) (λ x. g.R.Read.remaining x) (λ x. g.W.Write.contents x) h.promise.client.value h.promise.had.value r.pass r.connections)) (c.in_ok-handles.ensures.due i h here).1 (c.join_all.ensures.kept i r at h here)),
    )
