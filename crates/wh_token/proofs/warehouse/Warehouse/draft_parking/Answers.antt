use Rattle.std.proofs.Common.{◌≡◌, ◌∙◌, ap}
use Rattle.wh_token.specs.Houses.{House}
use Rattle.wh_token.proofs.Duties.{lawful-parking, no_way-parking, refuses-parking}
use Rattle.wh_token.proofs.warehouse.Warehouse.draft_parking.Goals as goal

pub draft_parked-requires-clause-lawful : goal.draft_parked-requires-clause-lawful
draft_parked-requires-clause-lawful g c =
    let book = c.args.self.now.book in
    let before : c.self.inside.book ≡ book = ap (λ (h : House g.row.P.Denot). h.book) c.self.view_is in
    let after : c.self-2.inside.book ≡ book = ap (λ (h : House g.row.P.Denot). h.book) c.self-2.view_is ∙ c.plan_parking.ensures.book in
    let allowed = rw (← c.as_slice.ensures.value, before) at c.in_ok-allowed.ensures in
    rw after (lawful-parking book.site.grid book.site.layout.nofollow book.state.paths c.args.agent 2 _ _ c.in-Ok.path allowed c.in-Ok.ensures.lawful)

pub refuse-requires-clause-refuses : goal.refuse-requires-clause-refuses
refuse-requires-clause-refuses g c =
    let book = c.args.self.now.book in
    let before : c.self.inside.book ≡ book = ap (λ (h : House g.row.P.Denot). h.book) c.self.view_is in
    let after : c.self-2.inside.book ≡ book = ap (λ (h : House g.row.P.Denot). h.book) c.self-2.view_is ∙ c.plan_parking.ensures.book in
    let allowed = rw (← c.as_slice.ensures.value, before) at c.in_ok-allowed.ensures in
    rw after (refuses-parking book.site book.state c.args.agent c.requires.due c.requires.makes_way
    (no_way-parking book.site.grid book.state.paths c.args.agent _ _ allowed (c.in-Err-NoPath.ensures.no_path c.in-Err-NoPath.field-0-is)))
