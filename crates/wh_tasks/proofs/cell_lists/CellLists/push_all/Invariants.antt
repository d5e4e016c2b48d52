use Rattle.std.proofs.Common.{◌≡◌, ◌+◌, ◌++◌, map, take}
use Rattle.wh_tasks.specs.CellLists.{listed}
use Rattle.wh_tasks.proofs.cell_lists.CellLists.push_all.Given as goal

abbrev pub invariant-loop-cell : goal.invariant-loop-cell
invariant-loop-cell l = record {
  stops : l.self.stops ≡ l.fn.self.stops ++ map (listed l.task) (take l.cell-index l.cells);
  room : l.self.room + l.cell-index ≡ l.fn.self.room;
}
