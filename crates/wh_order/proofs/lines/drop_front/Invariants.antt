use Rattle.std.proofs.Common.{◌≡◌, drop}
use Rattle.wh_order.proofs.lines.drop_front.Given as goal

abbrev pub invariant-loop-step : goal.invariant-loop-step
invariant-loop-step l = l.line.items ≡ drop l.step l.initial.line.items
