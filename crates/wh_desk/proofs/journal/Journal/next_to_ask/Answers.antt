use Rattle.std.proofs.Common.{◌≡◌, IfNone, length, ap, sym, subst, ◌∙◌}
use Rattle.wh_points.specs.Points.{Site}
use Rattle.wh_core.specs.States.{State}
use Rattle.wh_token.specs.Asking.{AllWouldRest, MayBeAsked}
use Rattle.wh_board.specs.Pasts.{Origin, Past, past_of}
use Rattle.wh_desk.specs.Lists.{Ledger}
use Rattle.wh_desk.specs.Kept.{JournalKeeps}
use Rattle.wh_desk.proofs.Asking.{seats_run}
use Rattle.wh_desk.proofs.journal.Journal.next_to_ask.Goals as goal

pub next_to_ask-requires : goal.next_to_ask-requires
next_to_ask-requires g c =
    let book = c.self.inside.warehouse.book in
    let site : book.site ≡ g.N.DeskName.origin.site = ap (λ (o : Origin). o.site) c.self.invariant.origin_is in
    c.requires ∙ ap (λ (s : Site). length s.layout.agents) (sym site) ∙ sym (seats_run book.site book.opening book.history book.state c.history-run.ensures.opening c.history-run.ensures.run)

pub invariant_of-self : goal.invariant_of-self
invariant_of-self g c =
    subst (λ (p : Past). JournalKeeps g.N.DeskName.origin g.N.DeskName.cells g.N.DeskName.book g.N.DeskName.callers p c.self.inside.capacity c.self.inside.rows.items c.self.inside.notes.items c.self.inside.cells c.self.inside.publisher)
    (ap past_of (sym c.next_to_ask.ensures.book)) c.self.invariant

pub returns-clause-none : goal.returns-clause-none
returns-clause-none g c =
    let book = c.self.inside.warehouse.book in
    let site : book.site ≡ g.N.DeskName.origin.site = ap (λ (o : Origin). o.site) c.self.invariant.origin_is in
    let state : book.state ≡ c.args.self.now.state = ap (λ (s : Ledger g.row.P.Denot). s.state) c.self.view_is in
    subst (λ (s : State). IfNone c.next_to_ask.result (AllWouldRest g.N.DeskName.origin.site s (MayBeAsked c.args.asked.now))) state
    (subst (λ (x : Site). IfNone c.next_to_ask.result (AllWouldRest x book.state (MayBeAsked c.args.asked.now))) site c.next_to_ask.ensures.none)
