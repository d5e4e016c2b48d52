use Rattle.std.proofs.Common.{◌≡◌, ◌∷◌, [], map, take}
use Rattle.wh_order.specs.Orders.{first_step}
use Rattle.wh_order.proofs.lines.first_steps.Given as goal

abbrev pub invariant-loop-start : goal.invariant-loop-start
invariant-loop-start l = map (λ q. q.items) l.lines.items ≡ map (λ cell. first_step cell ∷ []) (take l.start-index l.starts)
