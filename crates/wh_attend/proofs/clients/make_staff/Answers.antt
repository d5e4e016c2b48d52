use Rattle.std.proofs.Common.{ℕ, List, subst}
use Rattle.std.specs.Arc.{arc_value}
use Rattle.wh_service.specs.Fleets.{AreSeated}
use Rattle.wh_attend.proofs.Callers.{clients_as}
use Rattle.wh_attend.proofs.clients.make_staff.Goals as goal

pub returns-in-Ok-clients_of-clause-ok : goal.returns-in-Ok-clients_of-clause-ok
returns-in-Ok-clients_of-clause-ok g c = record {
  bank = arc_value c.in_ok-bank.bank;
  total = c.in_ok-bank.ensures.total;
  planners_are = subst (λ (ns : List ℕ). AreSeated (goal.F-post g c.args.make.now) c.args.options.now.fleet (arc_value c.args.grid.now) (arc_value c.in_ok-bank.bank) ns c.in-Ok.planners.items) c.slots-slots.ensures.value c.in-Ok.ensures.members;
  clients_are = clients_as _ _ _ _ _ _ _ _ _ _ c.history-history.ensures.value c.counts_before-counts.ensures c.in-Ok-clients_of.ensures.count c.places_beside-places.ensures.few
      c.places_beside-places.ensures.callers c.places_beside-places.ensures.named c.in-Ok-clients_of.ensures.each;
}
