use Rattle.std.proofs.Common.{ap, subst, List, nat_lt, refl}
use mathlib.Core.List.{IsPrefix}
use Rattle.wh_board.specs.Pasts.{Past}
use Rattle.wh_board.proofs.Chains.{later_extends}
use Rattle.wh_board.proofs.front.Front.is_before.Goals as goal

pub returns : goal.returns
returns c =
    let this : IsPrefix c.self.inside.seen.log c.learn.new.self.log = subst (λ (l : List Past). IsPrefix l c.learn.new.self.log) (ap (λ s. s.log) c.again-both.ensures) c.learn.ensures.2 in
    rw (← c.self.view_is, ← c.other.view_is) (later_extends _ _ c.learn.new.self.log _ _ c.self.invariant.0 c.other.invariant.0 c.self.invariant.1 c.other.invariant.1 this c.learn.ensures.3 (nat_lt c.self.inside.number c.other.inside.number) refl)
