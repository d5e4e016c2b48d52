use Rattle.std.proofs.Common.{◌≡◌, ap, rules, refl, subst}
use Rattle.wh_path.specs.Paths.{end_of}
use Rattle.wh_core.specs.Steps.{IsDue, IsRestCell, NoneIsNext}
use Rattle.wh_book.specs.Drafts.{Seen}
use Rattle.wh_token.specs.Houses.{House}
use Rattle.wh_token.proofs.warehouse.Warehouse.answer_at_once.Goals as goal

pub returns-then-rests_at_once-clause-answers : goal.returns-then-rests_at_once-clause-answers
returns-then-rests_at_once-clause-answers g c =
    let book = c.args.self.now.book in
    let agent = c.args.agent in
    let same : c.self.inside.book ≡ book = ap (λ (h : House g.row.P.Denot). h.book) c.self.view_is in
    let due : IsDue book.site book.state agent = search rules in (
      due,
      subst (λ (b : Seen). NoneIsNext b.state agent) same (c.if-rests_at_once.ensures.none refl),
      subst (λ (b : Seen). IsRestCell b.site b.state agent (end_of b.state.paths agent)) same (c.if-rests_at_once.ensures.rest_cell refl),
      refl,
    )
