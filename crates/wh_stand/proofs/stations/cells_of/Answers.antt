use Rattle.wh_stand.proofs.StationLemmas.{stations-more, stations-none, stations-all}
use Rattle.wh_stand.proofs.stations.cells_of.Goals as goal

pub loop-point-init : goal.loop-point-init
loop-point-init c = stations-none c.new-cells.result.keys c.new-cells.ensures.len

pub loop-point-preserved : goal.loop-point-preserved
loop-point-preserved c =
    stations-more c.args.points.now c.loop-point.point-index c.point-item.result c.loop-point.cells.keys c.add.new.cells.keys c.loop-point-test.true c.point-item.is c.loop-point.invariant
    c.in_ok-add.ensures.station c.in_ok-add.ensures.parking

pub returns : goal.returns
returns c = stations-all c.args.points.now c.loop-point.point-index c.loop-point.cells.keys c.loop-point-test.false c.loop-point.invariant
