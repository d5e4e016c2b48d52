use Rattle.std.proofs.Common.{◌≡◌, ◌∙◌, ap, sym}
use Rattle.wh_core.specs.States.{State}
use Rattle.wh_token.proofs.Fleet.{tied-slots}
use Rattle.wh_token.proofs.warehouse.Warehouse.furnish.Goals as goal

pub returns-clause-tied : goal.returns-clause-tied
returns-clause-tied g c =
    let slots : c.in-Ok-open.book.state.slots ≡ c.in-Ok.slots.items = ap (λ (s : State). s.slots) (c.in-Ok-open.ensures.state ∙ c.in-Ok-open.ensures.opening) in
    tied-slots g.P.Plans.fits_map g.P.Plans.slot_count c.grid.result.now c.args.setting.grid c.as_slice.result.now c.args.planners.items
    c.in-Ok.slots.items c.in-Ok-open.book.state.slots c.grid.ensures c.as_slice.ensures.value (sym slots) c.in-Ok.ensures
