use Rattle.std.proofs.Common.{◌≡◌, [], length}
use Rattle.wh_desk.specs.Lists.{AllAt}
use Rattle.wh_desk.proofs.earlier.empty_owns.Given as goal

abbrev pub invariant-loop : goal.invariant-loop
invariant-loop l = (length l.owns.items ≡ l.counter) × AllAt (λ _ own. (own.held.items ≡ []) × (own.last ≡ 0)) l.owns.items
