use Rattle.std.proofs.Common.{◌≡◌}
use Rattle.wh_search.proofs.noted.put.Given as goal

abbrev pub invariant-loop : goal.invariant-loop
invariant-loop l = l.slots ≡ l.fn.slots
