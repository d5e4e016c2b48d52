use Rattle.wh_token.proofs.Furnished.{furnished-same}
use Rattle.wh_token.proofs.warehouse.Warehouse.draft.Goals as goal

pub invariant_of-self-then-closed : goal.invariant_of-self-then-closed
invariant_of-self-then-closed g c = furnished-same _ _ _ _ _ _ _ c.reserve_entry.ensures.same c.self.invariant

pub invariant_of-self-in-Submit : goal.invariant_of-self-in-Submit
invariant_of-self-in-Submit g c =
    furnished-same _ _ _ _ _ _ _ c.draft_submit.ensures.same (furnished-same _ _ _ _ _ _ _ c.reserve_entry.ensures.same c.self.invariant)

pub invariant_of-self-in-Replace : goal.invariant_of-self-in-Replace
invariant_of-self-in-Replace g c = furnished-same _ _ _ _ _ _ _ c.reserve_entry.ensures.same c.self.invariant
