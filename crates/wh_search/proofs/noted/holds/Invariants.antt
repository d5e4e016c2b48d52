use Rattle.std.proofs.Common.{◌≡◌, take, All}
use Rattle.wh_search.proofs.noted.holds.Given as goal

abbrev pub invariant-loop-c : goal.invariant-loop-c
invariant-loop-c l = All (λ d. d ≡ l.cell → ⊥) (take l.c-index l.cells)
