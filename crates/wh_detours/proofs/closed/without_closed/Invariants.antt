use Rattle.wh_detours.specs.Closed.{AreClosed}
use Rattle.wh_detours.proofs.closed.without_closed.Given as goal

abbrev pub invariant-loop-path : goal.invariant-loop-path
invariant-loop-path l = AreClosed l.grid l.others l.fn.loc l.walkable.items
