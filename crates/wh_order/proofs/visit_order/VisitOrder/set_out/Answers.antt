use Rattle.std.proofs.Common.{◌<◌, ◌+◌, List, length, map, sym, subst, arith, Global}
use Rattle.std.specs.declared.collections.VecDeque.{VecDeque}
use Rattle.std.proofs.lemmas.List.{length-set}
use Rattle.wh_order.specs.declared.visit.Pending.{Pending}
use Rattle.wh_order.specs.Orders.{Order, IsKept, AreInLine, told_of}
use Rattle.wh_order.proofs.Asking.{set-out, kept-started}
use Rattle.wh_order.proofs.InLine.{in-line-started}
use Rattle.wh_order.proofs.visit_order.VisitOrder.set_out.Goals as goal

pub invariant_of-self : goal.invariant_of-self
invariant_of-self c =
    let items : VecDeque Pending Global → List Pending = λ q. q.items in
    let e = c.self.inside in
    let agent = c.args.agent in
    let o : Order = record { ahead = e.ahead; clock = e.clock; ready = e.ready; latest = e.latest.entries; lines = map items e.lines.items; vehicles = e.vehicles.items } in
    let known : agent < length o.vehicles = subst (λ (s : Order). agent < length s.vehicles) (sym c.self.view_is) c.requires.known in
    let planned : told_of o.vehicles agent < o.clock = subst (λ (s : Order). told_of s.vehicles agent < s.clock) (sym c.self.view_is) c.requires.planned in
    let is = set-out o agent c.index-vehicle.result.now known c.index-vehicle.ensures in
    let count = length-set e.vehicles.items agent (record { reached = c.index-vehicle.result.now.reached; told = c.index-vehicle.result.now.told + 1 }) in (
      subst IsKept (sym is) (kept-started o agent c.self.invariant.0 known planned),
      λ ready. (let room = c.self.invariant.1 ready in (room.0, (let more = room.1 in omega arith))),
      subst AreInLine (sym is) (in-line-started o agent c.self.invariant.2 known),
    )
