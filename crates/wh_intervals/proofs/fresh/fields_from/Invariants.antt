use Rattle.std.proofs.Common.{take}
use Rattle.wh_search.specs.Fields.{AreMade}
use Rattle.wh_intervals.proofs.fresh.fields_from.Given as goal

abbrev pub invariant-loop-stop : goal.invariant-loop-stop
invariant-loop-stop l = AreMade l.grid (take l.stop-index l.stops) l.kept.items
