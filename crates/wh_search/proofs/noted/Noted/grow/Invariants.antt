use Rattle.std.proofs.Common.{◌≡◌, ◌⊎◌, ℕ, Contains}
use Rattle.wh_search.proofs.noted.Noted.grow.Given as goal

abbrev pub invariant-loop-number : goal.invariant-loop-number
invariant-loop-number l = (n : ℕ) → Contains l.larger.items n → (n ≡ 0) ⊎ Contains l.number-items n
