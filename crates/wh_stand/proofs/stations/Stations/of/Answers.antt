use Rattle.std.proofs.Common.{List, subst}
use Rattle.wh_points.specs.declared.points.Point.{Point}
use Rattle.wh_stand.specs.StationCells.{AreStations}
use Rattle.wh_stand.proofs.stations.Stations.of.Goals as goal

pub invariant_of-result : goal.invariant_of-result
invariant_of-result c = subst (λ (points : List Point). AreStations points c.in_ok-cells.cells.keys) c.as_slice.ensures.value c.in_ok-cells.ensures
