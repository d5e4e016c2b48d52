use Rattle.wh_token.proofs.Furnished.{furnished-same, furnished-ticked}
use Rattle.wh_token.proofs.warehouse.Warehouse.add_tick.Goals as goal

pub invariant_of-self : goal.invariant_of-self
invariant_of-self g c = furnished-same _ _ _ _ _ _ _ c.reserve_entry.ensures.same c.self.invariant

pub invariant_of-self-2 : goal.invariant_of-self-2
invariant_of-self-2 g c =
    furnished-ticked _ _ _ _ _ _ _ c.tick.ensures.state c.tick.ensures.site (furnished-same _ _ _ _ _ _ _ c.reserve_entry.ensures.same c.self.invariant)
