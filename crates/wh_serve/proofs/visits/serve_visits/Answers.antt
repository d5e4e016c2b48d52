use Rattle.std.proofs.Common.{◌≡◌, ℕ, length, arith, subst}
use Rattle.wh_serve.specs.Texts.{receipt_text}
use Rattle.wh_serve.specs.Rows.{Visits}
use Rattle.wh_serve.proofs.Rows.{no_visit, one_more, session_known}
use Rattle.wh_board.proofs.Fronts.{prefix_self, prefix_trans}
use Rattle.wh_serve.proofs.visits.serve_visits.Goals as goal

pub loop-connections-init : goal.loop-connections-init
loop-connections-init g c = λ history begins.
    no_visit c.args.may (length g.N.DeskName.cells) g.P.Plans.fits_map g.P.Plans.slot_count g.N.DeskName.origin.site.grid (receipt_text c.args.form g.N.DeskName.origin history) (λ x. g.R.Read.remaining x) (λ x. g.W.Write.contents x) c.args.pass.now c.args.spares.now.items

pub loop-connections-preserved : goal.loop-connections-preserved
loop-connections-preserved g c =
    let after = c.serve_connection-visited.new.pass.known in
    let grown = session_known c.args.may (length g.N.DeskName.cells) g.P.Plans.fits_map g.P.Plans.slot_count g.N.DeskName.origin.site.grid (receipt_text c.args.form g.N.DeskName.origin after) (λ x. g.R.Read.remaining x) (λ x. g.W.Write.contents x) _ _ _ _ _ c.loop-connections.pass _ c.serve_connection-visited.new.pass _
    (c.serve_connection-visited.ensures after (prefix_self after)) in
    λ history begins.
    one_more c.args.may (length g.N.DeskName.cells) g.P.Plans.fits_map g.P.Plans.slot_count g.N.DeskName.origin.site.grid (receipt_text c.args.form g.N.DeskName.origin history) (λ x. g.R.Read.remaining x) (λ x. g.W.Write.contents x) _ _ _ _ _ c.args.pass.now c.args.spares.now.items
    c.loop-connections.pass c.loop-connections.spares.items c.serve_connection-visited.new.pass c.serve_connection-visited.new.spares.items c.loop-connections.connections
    (c.loop-connections.invariant history (prefix_trans c.loop-connections.pass.known after history grown begins)) (c.serve_connection-visited.ensures history begins)

pub returns : goal.returns
returns g c = λ history begins.
    let last : c.loop-connections.connections ≡ 18446744073709551615 = omega (arith, c.loop-connections-test.false, c.loop-connections.auto.connections-end) in
    subst (λ (n : ℕ). Visits c.args.may (length g.N.DeskName.cells) g.P.Plans.fits_map g.P.Plans.slot_count g.N.DeskName.origin.site.grid (receipt_text c.args.form g.N.DeskName.origin history) (λ x. g.R.Read.remaining x) (λ x. g.W.Write.contents x) c.args.pass.now c.args.spares.now.items c.loop-connections.pass c.loop-connections.spares.items n) last
    (c.loop-connections.invariant history begins)
