use Rattle.std.proofs.Common.{◌≡◌, ◌≤◌, ◌+◌, drop, length}
use Rattle.wh_book.specs.Waiting.{cells_through}
use Rattle.wh_book.proofs.idle.count_through.Given as goal

abbrev pub invariant-loop-k : goal.invariant-loop-k
invariant-loop-k l = (l.seen ≤ length l.stops) × (cells_through l.cells l.stops ≡ l.k + cells_through (drop l.k l.cells) (drop l.seen l.stops))
