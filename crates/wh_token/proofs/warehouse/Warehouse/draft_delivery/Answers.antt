use Rattle.std.proofs.Common.{◌≡◌, ◌∙◌, ap}
use Rattle.wh_token.specs.Houses.{House}
use Rattle.wh_token.proofs.warehouse.Warehouse.draft_delivery.Goals as goal

pub draft_took-requires-clause-due : goal.draft_took-requires-clause-due
draft_took-requires-clause-due g c =
    let book = c.args.self.now.book in
    let same : c.self.inside.book ≡ book = ap (λ (h : House g.row.P.Denot). h.book) c.self.view_is ∙ c.plan_delivery.ensures.book in
    rw same c.requires.due

pub draft_took-requires-clause-lawful : goal.draft_took-requires-clause-lawful
draft_took-requires-clause-lawful g c =
    let book = c.args.self.now.book in
    let same : c.self.inside.book ≡ book = ap (λ (h : House g.row.P.Denot). h.book) c.self.view_is ∙ c.plan_delivery.ensures.book in
    rw same c.in-Ok.ensures.lawful

pub draft_shut_in-requires-clause-no_way : goal.draft_shut_in-requires-clause-no_way
draft_shut_in-requires-clause-no_way g c =
    let none = c.in-Err-NoPath.ensures.no_path c.in-Err-NoPath.field-0-is in
    rw c.plan_delivery.ensures.book (c.args.task, none.0, none.1, none.2)
