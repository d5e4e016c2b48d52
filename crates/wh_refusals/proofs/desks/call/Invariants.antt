use Rattle.std.proofs.Common.{◌≡◌}
use Rattle.wh_refusals.proofs.desks.call.Given as goal

abbrev pub invariant-loop : goal.invariant-loop
invariant-loop g l = l.viewer.book ≡ l.fn.viewer.book
