use Rattle.std.proofs.Common.{sym, subst, length}
use Rattle.std.proofs.Crossing.{crosses}
use denote.Param.Send.{sendable, given_send}
use Rattle.wh_desk.specs.Lists.{Received}
use Rattle.wh_desk.proofs.Sharing.{desk_sync, pass_send}
use Rattle.wh_scribe.proofs.Sharing.{scribe_sync}
use Rattle.wh_serve.specs.Texts.{InEach, receipt_text}
use Rattle.wh_serve.specs.Rows.{Attended}
use Rattle.wh_serve.proofs.Sending.{client_send, form_send, start_sync}
use Rattle.wh_serve.proofs.threads.start_one.Goals as goal

pub spawn_with-started-requires-send-F : goal.spawn_with-started-requires-send-F
spawn_with-started-requires-send-F g c κs within =
    let n = c.type_bounds.send-N in
    let m = c.type_bounds.sync-N in
    let a = c.type_bounds.send-S in
    let b = c.type_bounds.sync-S in
    let j = c.type_bounds.send-J in
    let h = c.type_bounds.send-H in
    let k = c.type_bounds.sync-H in
    let p = c.type_bounds.send-P in
    let x = c.type_bounds.sync-X in
    let r = c.type_bounds.send-R in
    let w = c.type_bounds.send-W in
    let t = c.type_bounds.sync-D in
    search (sendable, crosses, desk_sync, scribe_sync, pass_send, client_send, form_send, start_sync, given_send) depth 30 fits 20000

pub spawn_with-started-requires-clause-keeps : goal.spawn_with-started-requires-clause-keeps
spawn_with-started-requires-clause-keeps g c κs within = λ r s.
    subst (λ d. InEach r.pass.known (λ history. Attended (length g.N.DeskName.cells) g.P.Plans.fits_map g.P.Plans.slot_count g.N.DeskName.origin.site.grid (receipt_text c.args.form g.N.DeskName.origin history) (λ x. g.R.Read.remaining x) (λ x. g.W.Write.contents x) d c.of.result.value r.pass r.connections)) (sym c.of-2.ensures)
    (subst (λ (p : Received). InEach r.pass.known (λ history. Attended (length g.N.DeskName.cells) g.P.Plans.fits_map g.P.Plans.slot_count g.N.DeskName.origin.site.grid (receipt_text c.args.form g.N.DeskName.origin history) (λ x. g.R.Read.remaining x) (λ x. g.W.Write.contents x) c.args.client p r.pass r.connections)) (sym c.of.ensures) s)

pub spawn_with-started-requires-send-T : goal.spawn_with-started-requires-send-T
spawn_with-started-requires-send-T g c κs within =
    let n = c.type_bounds.send-N in
    let m = c.type_bounds.sync-N in
    search (sendable, crosses, pass_send, client_send, form_send, given_send) depth 30 fits 20000
