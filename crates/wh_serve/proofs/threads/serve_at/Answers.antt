use Rattle.std.proofs.Common.{length}
use Rattle.wh_serve.specs.Texts.{receipt_text}
use Rattle.wh_serve.proofs.Rows.{no_visit}
use Rattle.wh_serve.proofs.threads.serve_at.Goals as goal

pub returns-in-Stop-clause-served : goal.returns-in-Stop-clause-served
returns-in-Stop-clause-served g c = λ history begins. record {
  rest = c.args.client.spares.items;
  visits = no_visit c.args.client.allowance (length g.N.DeskName.cells) g.P.Plans.fits_map g.P.Plans.slot_count g.N.DeskName.origin.site.grid (receipt_text c.args.form g.N.DeskName.origin history) (λ x. g.R.Read.remaining x) (λ x. g.W.Write.contents x) c.args.pass c.args.client.spares.items;
}
