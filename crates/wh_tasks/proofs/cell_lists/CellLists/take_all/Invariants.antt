use Rattle.std.proofs.Common.{◌≡◌}
use Rattle.wh_tasks.specs.CellLists.{AreTakenOut}
use Rattle.wh_tasks.proofs.cell_lists.CellLists.take_all.Given as goal

abbrev pub invariant-loop-i : goal.invariant-loop-i
invariant-loop-i l = record {
  stops : AreTakenOut l.first l.i l.fn.self.stops l.self.stops;
  room : l.self.room ≡ l.fn.self.room;
}
