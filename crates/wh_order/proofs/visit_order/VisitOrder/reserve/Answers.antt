use Rattle.std.proofs.Common.{◌≡◌, ◌<◌, ◌++◌, ◌∙◌, List, All, length, map, take, drop, true, false, refl, sym, subst, ap, arith, Global}
use Rattle.std.specs.VecDeque.{deque_len, deque_capacity}
use Rattle.std.specs.declared.collections.VecDeque.{VecDeque}
use Rattle.wh_order.specs.declared.visit.Pending.{Pending}
use Rattle.wh_order.specs.Orders.{Order}
use Rattle.wh_order.proofs.InLine.{written-over, kept-same, in-line-same}
use Rattle.wh_order.proofs.visit_order.VisitOrder.reserve.Goals as goal

pub invariant_of-self : goal.invariant_of-self
invariant_of-self c =
    let items : VecDeque Pending Global → List Pending = λ q. q.items in
    let e = c.self.inside in
    let o : Order = record { ahead = e.ahead; clock = e.clock; ready = e.ready; latest = e.latest.entries; lines = map items e.lines.items; vehicles = e.vehicles.items } in
    let r : Order = record { ahead = e.ahead; clock = e.clock; ready = false; latest = c.reserve.new.self.entries; lines = map items e.lines.items; vehicles = e.vehicles.items } in (
      kept-same o r c.self.invariant.0 refl refl refl,
      λ is. absurd (let f : false ≡ true = is in cc),
      in-line-same o r c.self.invariant.2 refl c.reserve.ensures.entries refl refl,
    )

pub invariant_of-self-in_err-reserve_all : goal.invariant_of-self-in_err-reserve_all
invariant_of-self-in_err-reserve_all c =
    let items : VecDeque Pending Global → List Pending = λ q. q.items in
    let e = c.self.inside in
    let old = e.lines.items in
    let new = c.reserve_all.new.lines in
    let written = take e.lines.len (new ++ drop (length new) old) in
    let o : Order = record { ahead = e.ahead; clock = e.clock; ready = e.ready; latest = e.latest.entries; lines = map items old; vehicles = e.vehicles.items } in
    let r : Order = record { ahead = e.ahead; clock = e.clock; ready = false; latest = c.reserve.new.self.entries; lines = map items written; vehicles = e.vehicles.items } in
    let over : written ≡ new = written-over e.lines.len new old (c.reserve_all.auto.lines ∙ c.deref_mut.ensures.len) in
    let same : r.lines ≡ o.lines = ap (map items) over ∙ c.reserve_all.ensures.same ∙ ap (map items) c.deref_mut.ensures.value in (
      kept-same o r c.self.invariant.0 refl same refl,
      λ is. absurd (let f : false ≡ true = is in cc),
      in-line-same o r c.self.invariant.2 refl c.reserve.ensures.entries same refl,
    )

pub invariant_of-self-2 : goal.invariant_of-self-2
invariant_of-self-2 c =
    let items : VecDeque Pending Global → List Pending = λ q. q.items in
    let e = c.self.inside in
    let old = e.lines.items in
    let new = c.reserve_all.new.lines in
    let written = take e.lines.len (new ++ drop (length new) old) in
    let o : Order = record { ahead = e.ahead; clock = e.clock; ready = e.ready; latest = e.latest.entries; lines = map items old; vehicles = e.vehicles.items } in
    let r : Order = record { ahead = e.ahead; clock = e.clock; ready = true; latest = c.reserve.new.self.entries; lines = map items written; vehicles = e.vehicles.items } in
    let over : written ≡ new = written-over e.lines.len new old (c.reserve_all.auto.lines ∙ c.deref_mut.ensures.len) in
    let same : r.lines ≡ o.lines = ap (map items) over ∙ c.reserve_all.ensures.same ∙ ap (map items) c.deref_mut.ensures.value in
    let room = c.in_ok-reserve.ensures.ok in
    let count = c.len.ensures in (
      kept-same o r c.self.invariant.0 refl same refl,
      λ is. (subst (λ (qs : List (VecDeque Pending Global)). All (λ q. deque_len q < deque_capacity q) qs) (sym over) c.in_ok-reserve_all.ensures.room, omega arith),
      in-line-same o r c.self.invariant.2 refl c.reserve.ensures.entries same refl,
    )
