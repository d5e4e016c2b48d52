use Rattle.std.proofs.Common.{◌≡◌, ℕ, ◌+◌, set, get_or, inr, vec_capacity, refl, sym, subst, ◌∙◌, arith}
use Rattle.std.proofs.lemmas.List.{get_or_default}
use Rattle.wh_field.specs.Tables.{HasRoom, unseen}
use Rattle.wh_field.proofs.Tables.{room_for, visit_room, read_from}
use Rattle.wh_field.proofs.table.visit_below.Goals as goal

pub push_reserved-requires : goal.push_reserved-requires
push_reserved-requires c =
    let t = c.args.table.now in
    let i = c.args.place + c.args.stride in
    let here : get_or t i 0 ≡ unseen = sym (read_from t c.args.stride c.args.place i refl c.requires.inside) ∙ c.if-table-stride.true in
    let some = room_for t i c.requires.inside (get_or_default t i 4294967294 0 c.requires.inside ∙ here) in
    let room = c.requires.room.room in
    omega arith

pub returns-then-table-stride-clause-room : goal.returns-then-table-stride-clause-room
returns-then-table-stride-clause-room c =
    let t = c.args.table.now in
    let i = c.args.place + c.args.stride in
    let q = c.args.queue.now.items in
    let here : get_or t i 0 ≡ unseen = sym (read_from t c.args.stride c.args.place i refl c.requires.inside) ∙ c.if-table-stride.true in
    let P : ℕ → Type 0 = λ n. HasRoom n (set t i c.args.distance) c.push_reserved.new.self.items in
    subst P (sym c.push_reserved.ensures.capacity)
    (visit_room (vec_capacity c.args.queue.now) i c.args.distance t q (set t i c.args.distance) c.push_reserved.new.self.items c.requires.inside c.requires.distance
    (inr (get_or_default t i 4294967294 0 c.requires.inside ∙ here, refl, c.push_reserved.ensures.items)) c.requires.room)
