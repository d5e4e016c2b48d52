use Rattle.std.proofs.Common.{◌≤◌, List, map, subst, arith, Global}
use Rattle.std.specs.declared.collections.VecDeque.{VecDeque}
use Rattle.wh_order.specs.declared.visit.Pending.{Pending}
use Rattle.wh_order.specs.Orders.{Order, not_over}
use Rattle.wh_order.proofs.InLine.{few-kept}
use Rattle.wh_order.proofs.visit_order.VisitOrder.kept.Goals as goal

pub returns-clause-bound : goal.returns-clause-bound
returns-clause-bound c =
    let items : VecDeque Pending Global → List Pending = λ q. q.items in
    let e = c.self.inside in
    let o : Order = record { ahead = e.ahead; clock = e.clock; ready = e.ready; latest = e.latest.entries; lines = map items e.lines.items; vehicles = e.vehicles.items } in
    let few = few-kept o c.self.invariant.0 c.self.invariant.2 c.len.ensures.unique in
    let count = c.len.ensures.len in
    let bound : c.len.result ≤ not_over o = omega arith in
    subst (λ (s : Order). c.len.result ≤ not_over s) c.self.view_is bound
