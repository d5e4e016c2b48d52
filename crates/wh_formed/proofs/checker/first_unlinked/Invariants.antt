use Rattle.std.proofs.Common.{◌<◌, ℕ}
use Rattle.wh_formed.specs.Labels.{AreLinked}
use Rattle.wh_path.specs.Paths.{cell_at}
use Rattle.wh_formed.proofs.checker.first_unlinked.Given as goal

abbrev pub invariant-loop-b : goal.invariant-loop-b
invariant-loop-b l = (l.fn.a < l.b) × ((k : ℕ) → l.fn.a < k → k < l.b → AreLinked l.grid l.numbers (cell_at l.cells l.fn.a) (cell_at l.cells k))
