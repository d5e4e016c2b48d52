use Rattle.std.proofs.Common.{◌≡◌, ap, subst}
use Rattle.std.specs.Prelude.{IfNone}
use Rattle.wh_core.specs.Laws.{AllOnTheirWays}
use Rattle.wh_book.specs.Drafts.{Seen}
use Rattle.wh_token.specs.Houses.{House}
use Rattle.wh_token.proofs.warehouse.Warehouse.first_stray.Goals as goal

pub returns-clause-none : goal.returns-clause-none
returns-clause-none g c =
    let same : c.self.inside.book ≡ c.args.self.now.book = ap (λ (h : House g.row.P.Denot). h.book) c.self.view_is in
    subst (λ (b : Seen). IfNone c.first_stray.result (AllOnTheirWays b.site b.state)) same c.first_stray.ensures.none
