use Rattle.std.proofs.Common.{◌≡◌, length, ap, subst, ◌∙◌}
use Rattle.wh_board.specs.Pasts.{Origin, Past, past_of}
use Rattle.wh_board.specs.Boards.{IsBoardOf}
use Rattle.wh_desk.specs.Lists.{Ledger}
use Rattle.wh_desk.proofs.Asking.{seats_run}
use Rattle.wh_desk.proofs.journal.Journal.board.Goals as goal

pub returns-clause-board : goal.returns-clause-board
returns-clause-board g c =
    let book = c.self.inside.warehouse.book in
    let past : past_of book ≡ record { origin = g.N.DeskName.origin; history = c.args.self.now.history } = λ i. record { origin = c.self.invariant.origin_is i; history = ap (λ (s : Ledger g.row.P.Denot). s.history) c.self.view_is i } in
    subst (λ (p : Past). IsBoardOf p c.of.result) (ap past_of c.book.ensures ∙ past) c.of.ensures

pub returns-clause-seats : goal.returns-clause-seats
returns-clause-seats g c =
    let book = c.self.inside.warehouse.book in
    let is : IsBoardOf (past_of book) c.of.result = subst (λ (p : Past). IsBoardOf p c.of.result) (ap past_of c.book.ensures) c.of.ensures in
    is.agents.count ∙ seats_run book.site book.opening book.history is.state c.history-run.ensures.opening is.run ∙ ap (λ (o : Origin). length o.site.layout.agents) c.self.invariant.origin_is
