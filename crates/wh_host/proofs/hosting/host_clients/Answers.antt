use Rattle.std.proofs.Common.{IfOk, length, sym, subst, Option}
use Rattle.wh_host.specs.declared.pacing.Pacing.{Pacing}
use Rattle.wh_serve.specs.Texts.{receipt_text}
use Rattle.wh_host.specs.Hosting.{Leaves}
use Rattle.wh_host.proofs.hosting.host_clients.Goals as goal

pub returns-in-None-clause-leaves : goal.returns-in-None-clause-leaves
returns-in-None-clause-leaves g c =
    subst (λ (p : Option Pacing). IfOk c.host_alone.result (λ h. Leaves g.P.Plans.fits_map g.P.Plans.slot_count (receipt_text c.args.form g.N.DeskName.origin) (λ x. g.R.Read.remaining x) (λ x. g.W.Write.contents x) g.N.DeskName.origin (length g.N.DeskName.cells) g.N.DeskName.callers c.args.clients.items c.args.passes.items p h.history.warehouse.book.history h.history.warehouse.book.state h.connections.items h.worker)) (sym c.in-None.is) c.host_alone.ensures.leaves

pub returns-in-Some-clause-leaves : goal.returns-in-Some-clause-leaves
returns-in-Some-clause-leaves g c =
    subst (λ (p : Option Pacing). IfOk c.host_paced.result (λ h. Leaves g.P.Plans.fits_map g.P.Plans.slot_count (receipt_text c.args.form g.N.DeskName.origin) (λ x. g.R.Read.remaining x) (λ x. g.W.Write.contents x) g.N.DeskName.origin (length g.N.DeskName.cells) g.N.DeskName.callers c.args.clients.items c.args.passes.items p h.history.warehouse.book.history h.history.warehouse.book.state h.connections.items h.worker)) (sym c.in-Some.is) c.host_paced.ensures.leaves
