use Rattle.std.proofs.Common.{length}
use Rattle.wh_serve.specs.Texts.{InEach, receipt_text}
use Rattle.wh_serve.specs.Rows.{Visits}
use Rattle.wh_serve.proofs.visits.serve_visits.Given as goal

-- this many connections are over
abbrev pub invariant-loop-connections : goal.invariant-loop-connections
invariant-loop-connections g l =
    InEach l.pass.known (λ history. Visits l.fn.may (length g.N.DeskName.cells) g.P.Plans.fits_map g.P.Plans.slot_count g.N.DeskName.origin.site.grid (receipt_text l.fn.form g.N.DeskName.origin history) (λ x. g.R.Read.remaining x) (λ x. g.W.Write.contents x) l.fn.pass l.fn.spares.items l.pass l.spares.items l.connections)
