use Rattle.std.proofs.Common.{◌≡◌, ℕ, List, length, map, sym, ◌∙◌, ap, subst}
use Rattle.std.proofs.lemmas.List.{length-map}
use Rattle.wh_desk.specs.Lists.{Received}
use Rattle.wh_serve.specs.Texts.{InEach, receipt_text}
use Rattle.wh_serve.specs.Rows.{Attended}
use Rattle.wh_serve.specs.Hosting.{AllReported}
use Rattle.wh_serve.proofs.Hosts.{all_reported}
use Rattle.wh_serve.proofs.threads.serve_clients.Goals as goal

pub returns-in-Ok-run_all-clause-count : goal.returns-in-Ok-run_all-clause-count
returns-in-Ok-run_all-clause-count g c =
    let rs = c.in-Ok-run_all.reports.items in
    let many : length rs ≡ length c.args.clients.items = c.in-Ok-run_all.ensures.count ∙ sym c.requires.clients in (
      ap (λ (l : List Received). length l) c.take_apart.ensures.passes ∙ length-map rs (λ r. r.pass) ∙ many,
      ap (λ (l : List ℕ). length l) c.take_apart.ensures.connections ∙ length-map rs (λ r. r.connections) ∙ many,
    )

pub returns-in-Ok-run_all-clause-served : goal.returns-in-Ok-run_all-clause-served
returns-in-Ok-run_all-clause-served g c =
    let clients = c.args.clients.items in
    let passes = c.args.passes.items in
    let rs = c.in-Ok-run_all.reports.items in
    subst (λ (l : List Received). AllReported (λ d had has n. InEach has.known (λ history. Attended (length g.N.DeskName.cells) g.P.Plans.fits_map g.P.Plans.slot_count g.N.DeskName.origin.site.grid (receipt_text c.args.form g.N.DeskName.origin history) (λ x. g.R.Read.remaining x) (λ x. g.W.Write.contents x) d had has n)) clients passes l c.take_apart.result.connections.items) (sym c.take_apart.ensures.passes)
    (subst (λ (l : List ℕ). AllReported (λ d had has n. InEach has.known (λ history. Attended (length g.N.DeskName.cells) g.P.Plans.fits_map g.P.Plans.slot_count g.N.DeskName.origin.site.grid (receipt_text c.args.form g.N.DeskName.origin history) (λ x. g.R.Read.remaining x) (λ x. g.W.Write.contents x) d had has n)) clients passes (map (λ r. r.pass) rs) l) (sym c.take_apart.ensures.connections)
    (all_reported (λ d had has n. InEach has.known (λ history. Attended (length g.N.DeskName.cells) g.P.Plans.fits_map g.P.Plans.slot_count g.N.DeskName.origin.site.grid (receipt_text c.args.form g.N.DeskName.origin history) (λ x. g.R.Read.remaining x) (λ x. g.W.Write.contents x) d had has n)) (λ r. r.pass) (λ r. r.connections) clients passes rs c.in-Ok-run_all.ensures.reported))
