use Rattle.wh_detours.specs.Taken.{IsFiltered}
use Rattle.wh_detours.proofs.taken.without_taken.Given as goal

abbrev pub invariant-loop-path : goal.invariant-loop-path
invariant-loop-path l = IsFiltered l.grid l.others l.paths l.path-index l.walkable.items
