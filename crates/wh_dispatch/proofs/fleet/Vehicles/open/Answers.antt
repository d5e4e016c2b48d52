use Rattle.std.proofs.Common.{◌≡◌, ◌≢◌, List, length, ◌∙◌, sym, subst, ap}
use Rattle.std.specs.Prelude.{vec_capacity}
use Rattle.std.specs.List.{AllPairs}
use Rattle.wh_grid.specs.declared.cell.Cell.{Cell}
use Rattle.wh_drive.specs.Drives.{opened}
use Rattle.wh_order.specs.Orders.{Represents}
use Rattle.wh_vehicles.proofs.Planning.{size}
use Rattle.wh_dispatch.proofs.Rows.{at_opening, begins_there, differ_opened, stand_opened, manned_opened}
use Rattle.wh_dispatch.proofs.fleet.Vehicles.open.Goals as goal

pub open-requires-clause-differ : goal.open-requires-clause-differ
open-requires-clause-differ g c =
    let book = c.args.warehouse.now.book in
    let same = at_opening book c.requires.opening c.history-opening.ensures.run in
    subst (λ (row : List Cell). AllPairs (λ a b. a ≢ b) row) (sym (c.as_slice.ensures.value ∙ c.in_ok-row.ensures))
    (differ_opened book (begins_there book c.history-opening.ensures.opening same))

pub keep_left-requires : goal.keep_left-requires
keep_left-requires g c =
    let book = c.args.warehouse.now.book in
    let same = at_opening book c.requires.opening c.history-opening.ensures.run in
    let begins = begins_there book c.history-opening.ensures.opening same in
    let count : length c.in_ok-order.order.vehicles ≡ length book.state.paths =
    c.in_ok-order.ensures.agents ∙ ap (λ (row : List Cell). length row) (c.as_slice.ensures.value ∙ c.in_ok-row.ensures) ∙ size book.state in
    record { stand = stand_opened book c.in_ok-pending.pending.items begins c.in_ok-pending.ensures c.args.ahead (length c.in_ok-order.order.vehicles) count }

pub returns-clause-manned : goal.returns-clause-manned
returns-clause-manned g c =
    let book = c.args.warehouse.now.book in
    let same = at_opening book c.requires.opening c.history-opening.ensures.run in
    let begins = begins_there book c.history-opening.ensures.opening same in
    manned_opened book c.in_ok-pending.pending.items begins c.in_ok-pending.ensures
    (record { order = c.in_ok-order.order; bound = c.args.behind; told = c.reserve.new.self.items; row = c.in_ok-row.row.items; pending = c.keep_left.new.pending.items; room = vec_capacity c.keep_left.new.pending }) c.args.ahead
    same c.requires.opening c.requires.some c.keep_left.ensures
    (subst (λ (row : List Cell). Represents c.in_ok-order.order (opened book.site.layout.nofollow c.args.ahead row)) (c.as_slice.ensures.value ∙ c.in_ok-row.ensures)
    (c.in_ok-order.ensures.represents book.site.layout.nofollow))
