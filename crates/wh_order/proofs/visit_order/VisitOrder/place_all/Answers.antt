use Rattle.std.proofs.Common.{◌≡◌, ◌++◌, ◌∙◌, List, length, map, take, drop, true, false, refl, sym, subst, Global}
use Rattle.std.specs.declared.collections.VecDeque.{VecDeque}
use Rattle.wh_drive.specs.declared.vehicle.Vehicle.{Vehicle}
use Rattle.wh_order.specs.declared.visit.Pending.{Pending}
use Rattle.wh_order.specs.Orders.{Order, AreOver, AreSteps, Forgets, IsPlaced}
use Rattle.wh_order.proofs.InLine.{written-over, kept-placed, in-line-placed}
use Rattle.wh_order.proofs.visit_order.VisitOrder.place_all.Goals as goal

pub invariant_of-self : goal.invariant_of-self
invariant_of-self c =
    let items : VecDeque Pending Global → List Pending = λ q. q.items in
    let e = c.self.inside in
    let old = e.lines.items in
    let new = c.drop_all.new.lines in
    let vehicles = c.args.vehicles.items in
    let latest = c.forget_over.new.latest.entries in
    let written = take e.lines.len (new ++ drop (length new) old) in
    let o : Order = record { ahead = e.ahead; clock = e.clock; ready = e.ready; latest = e.latest.entries; lines = map items old; vehicles = e.vehicles.items } in
    let r : Order = record { ahead = e.ahead; clock = e.clock; ready = false; latest = latest; lines = map items written; vehicles = vehicles } in
    let steps : AreSteps o vehicles = subst (λ (s : Order). AreSteps s vehicles) (sym c.self.view_is) c.requires in
    let over : written ≡ new = written-over e.lines.len new old (c.drop_all.auto.lines ∙ c.deref_mut.ensures.len) in
    let gone = subst (λ (vs : List Vehicle). AreOver vs (map items c.deref_mut.result.now) (map items new)) c.deref.ensures.value c.drop_all.ensures in
    let gone' = subst (λ (qs : List (VecDeque Pending Global)). AreOver vehicles (map items qs) (map items new)) c.deref_mut.ensures.value gone in
    let placed : IsPlaced o r vehicles = record {
      ahead = refl;
      clock = refl;
      vehicles_are = refl;
      lines = subst (λ (qs : List (VecDeque Pending Global)). AreOver vehicles (map items old) (map items qs)) (sym over) gone';
      latest = subst (λ (vs : List Vehicle). Forgets vs e.latest.entries latest) c.deref-2.ensures.value c.forget_over.ensures;
    } in (
      kept-placed o r vehicles c.self.invariant.0 steps placed,
      λ is. absurd (let f : false ≡ true = is in cc),
      in-line-placed o r vehicles c.self.invariant.2 steps placed,
    )
