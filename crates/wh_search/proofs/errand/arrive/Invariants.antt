use Rattle.std.proofs.Common.{◌≡◌, ℕ, ◌<◌, ◌≤◌}
use Rattle.wh_path.specs.Paths.{cell_at}
use Rattle.wh_search.proofs.errand.arrive.Given as goal

abbrev pub invariant-loop-l : goal.invariant-loop-l
invariant-loop-l l = (j : ℕ) → l.fn.leg ≤ j → j < l.l → cell_at l.via j ≡ l.cell
