use Rattle.std.proofs.Common.{◌∙◌}
use Rattle.wh_token.proofs.Furnished.{furnished-same, furnished-still}
use Rattle.wh_token.proofs.warehouse.Warehouse.add_answer.Goals as goal

pub invariant_of-self : goal.invariant_of-self
invariant_of-self g c = furnished-same _ _ _ _ _ _ _ c.reserve_entry.ensures.same c.self.invariant

pub invariant_of-self-2 : goal.invariant_of-self-2
invariant_of-self-2 g c =
    furnished-still _ _ _ _ _ _ _ (c.add_answer.ensures.state ∙ c.reserve_entry.ensures.same.state) (c.add_answer.ensures.site ∙ c.reserve_entry.ensures.same.site)
    c.self.invariant
