use Rattle.std.proofs.Common.{◌≡◌, ap, subst}
use Rattle.wh_core.specs.Steps.{IsStray}
use Rattle.wh_book.specs.Drafts.{Seen}
use Rattle.wh_token.specs.Houses.{House}
use Rattle.wh_token.proofs.Duties.{IsInTheWay, way-shut}
use Rattle.wh_token.proofs.warehouse.Warehouse.draft_shut_in.Goals as goal

pub draft_parking-requires-clause-makes_way : goal.draft_parking-requires-clause-makes_way
draft_parking-requires-clause-makes_way g c =
    let book = c.args.self.now.book in
    let agent = c.args.agent in
    let same : c.self.inside.book ≡ book = ap (λ (h : House g.row.P.Denot). h.book) c.self.view_is in
    way-shut book.site book.state agent (subst (λ (b : Seen). IsStray b.site b.state agent) same c.if-not-is_stray.ensures) c.requires.no_way
    (subst (λ (b : Seen). IsInTheWay b.site b.state agent) same c.if-may_rest.ensures)
