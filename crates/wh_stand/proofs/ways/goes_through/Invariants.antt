use Rattle.wh_stand.proofs.Passing.{IsVisiting}
use Rattle.wh_stand.proofs.ways.goes_through.Given as goal

abbrev pub invariant-loop-k : goal.invariant-loop-k
invariant-loop-k l = IsVisiting l.stops l.path l.k l.visited
