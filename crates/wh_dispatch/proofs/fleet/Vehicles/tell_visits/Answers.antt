use Rattle.std.proofs.Common.{List, length, sym, subst}
use Rattle.std.specs.Prelude.{Contains}
use Rattle.wh_dispatch.specs.declared.visits.Pending.{Pending}
use Rattle.wh_dispatch.specs.Crews.{Crew}
use Rattle.wh_dispatch.specs.Visiting.{IsStanding}
use Rattle.wh_dispatch.proofs.fleet.Vehicles.tell_visits.Goals as goal

pub tell_due-requires : goal.tell_due-requires
tell_due-requires g c = record {
  stand = (let stand = subst (λ (x : Crew). (p : Pending) → Contains x.pending p → IsStanding c.args.warehouse.now.book.state.tasks (length x.order.vehicles) p) (sym c.self.view_is) c.requires.stand in
      λ p k. stand p (subst (λ (xs : List Pending). Contains xs p) c.as_slice.ensures.value k));
}

pub keep_left-requires : goal.keep_left-requires
keep_left-requires g c = record { stand = (subst (λ (x : Crew). (p : Pending) → Contains x.pending p → IsStanding c.args.warehouse.now.book.state.tasks (length x.order.vehicles) p) (sym c.self.view_is) c.requires.stand) }
