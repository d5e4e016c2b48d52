use Rattle.std.proofs.Common.{take}
use Rattle.wh_stand.specs.StationCells.{AreStations}
use Rattle.wh_stand.proofs.stations.cells_of.Given as goal

abbrev pub invariant-loop-point : goal.invariant-loop-point
invariant-loop-point l = AreStations (take l.point-index l.points) l.cells.keys
