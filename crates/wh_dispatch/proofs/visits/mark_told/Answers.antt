use Rattle.std.proofs.Common.{◌∙◌, sym, arith}
use Rattle.std.proofs.lemmas.List.{length-map, get_or-map, same_lists}
use Rattle.wh_dispatch.specs.Visiting.{told_of}
use Rattle.wh_dispatch.proofs.visits.mark_told.Goals as goal

pub returns : goal.returns
returns g c =
    let f = told_of c.args.warehouse.now.book.opening.clock c.args.warehouse.now.book.state.tasks c.args.order.now.vehicles in
    let size = c.loop-place.invariant.size in
    let many = length-map c.args.pending.now.items f in
    let past = c.loop-place-test.false in
    same_lists _ _ (omega arith) (λ k d h.
    c.loop-place.invariant.done k d (omega arith) ∙ sym (get_or-map f c.args.pending.now.items k d d (omega arith)))
