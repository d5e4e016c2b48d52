use Rattle.std.proofs.Common.{◌≡◌, ℕ, Contains}
use Rattle.wh_search.proofs.noted.none_noted.Given as goal

abbrev pub invariant-loop : goal.invariant-loop
invariant-loop l = (n : ℕ) → Contains l.slots.items n → n ≡ 0
