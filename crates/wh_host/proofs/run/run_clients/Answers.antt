use Rattle.std.proofs.Common.{ℕ, IfOk, refl, ap, subst}
use Rattle.wh_board.specs.Pasts.{Origin}
use Rattle.wh_desk.specs.Pasts.{origin_of, past_of}
use Rattle.wh_serve.specs.Texts.{receipt_text}
use Rattle.wh_host.specs.Runs.{ServedFrom}
use Rattle.wh_host.proofs.Boards.{boards_from, if_four}
use Rattle.wh_host.proofs.Settling.{log_begun}
use Rattle.wh_host.proofs.run.run_clients.Goals as goal

pub over_desk-requires-clause-start : goal.over_desk-requires-clause-start
over_desk-requires-clause-start g c κs within = log_begun (g.J.Journal.contents c.args.journal) c.args.warehouse.book c.requires.log

pub returns-clause-ok : goal.returns-clause-ok
returns-clause-ok g c =
    let book = c.args.warehouse.book in
    subst (λ (n : ℕ). IfOk c.over_desk.result (λ r. ServedFrom g.P.Plans.fits_map g.P.Plans.slot_count (receipt_text c.args.form (record { site = book.site; opening = book.opening })) (λ x. g.R.Read.remaining x) (λ x. g.W.Write.contents x) (record { site = book.site; opening = book.opening }) book.history c.args.clients.items c.args.pace n
    r.history.warehouse.book.history r.history.warehouse.book.state r.connections.items r.worker)) c.in-Ok.ensures.cells c.over_desk.ensures.ok

pub returns-clause-boards : goal.returns-clause-boards
returns-clause-boards g c =
    let book = c.args.warehouse.book in
    let told = c.over_desk.ensures in
    if_four c.over_desk.result told.boards told.origin told.origin told.origin (λ r watched origin again once.
    boards_from (origin_of book) book.history r.history.warehouse.book.history (past_of book) (past_of r.history.warehouse.book) r.last _ _ _ refl
    (ap (λ (o : Origin). record { origin = o; history = r.history.warehouse.book.history }) origin) c.in-Ok.ensures.first watched)
