use Rattle.std.proofs.Common.{◌≡◌, take, count_by}
use Rattle.wh_grid.proofs.grid.count_true.Given as goal

abbrev pub invariant-loop-x : goal.invariant-loop-x
invariant-loop-x l = l.count ≡ count_by (λ b. b) (take l.x-index l.xs)
