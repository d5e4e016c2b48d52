use Rattle.std.proofs.Common.{◌≡◌, ◌+◌, drop}
use Rattle.wh_tasks.specs.Arrivals.{stops_here}
use Rattle.wh_book.proofs.idle.count_here.Given as goal

abbrev pub invariant-loop-k : goal.invariant-loop-k
invariant-loop-k l = stops_here l.here l.stops ≡ l.k + stops_here l.here (drop l.k l.stops)
