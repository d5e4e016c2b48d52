use Rattle.std.proofs.Common.{◌≡◌, ap, subst}
use Rattle.std.specs.Prelude.{IfNone}
use Rattle.wh_book.specs.Drafts.{Seen}
use Rattle.wh_token.specs.Houses.{House}
use Rattle.wh_token.specs.Asking.{AllWouldRest, MayBeAsked}
use Rattle.wh_token.proofs.warehouse.Warehouse.next_to_ask.Goals as goal

pub returns-clause-none : goal.returns-clause-none
returns-clause-none g c =
    let same : c.self.inside.book ≡ c.args.self.now.book = ap (λ (h : House g.row.P.Denot). h.book) c.self.view_is in
    subst (λ (b : Seen). IfNone c.next_to_ask.result (AllWouldRest b.site b.state (MayBeAsked c.args.asked.now))) same c.next_to_ask.ensures.none
