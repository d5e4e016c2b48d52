use Rattle.std.proofs.Common.{◌≡◌, ◌+◌, ◌<◌, ℕ, length}
use Rattle.wh_path.specs.Paths.{at}
use Rattle.wh_planners.proofs.patient.going_on.Given as goal

abbrev pub invariant-loop-k : goal.invariant-loop-k
invariant-loop-k l = (length l.cells.items ≡ l.k + 1) × ((j : ℕ) → j < l.k + 1 → at l.cells.items j ≡ at l.own j)
