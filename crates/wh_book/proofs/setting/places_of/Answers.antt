use Rattle.std.proofs.Common.{rules}
use Rattle.wh_book.proofs.Naming.{fault-unknown, fault-parking, stations-more}
use Rattle.wh_book.proofs.setting.places_of.Goals as goal

pub returns-in_default-clause-fault : goal.returns-in_default-clause-fault
returns-in_default-clause-fault c =
    let none = c.in_default.ensures.none in
    rw (← c.as_slice-names.ensures.value) (fault-unknown c.args.points.now c.as_slice-names.result.now c.loop-k.k c.loop-k.cells.items c.index-names-k.result
    c.loop-k-test.true c.index-names-k.is c.loop-k.invariant.stations none)

pub returns-in-Parking-clause-fault : goal.returns-in-Parking-clause-fault
returns-in-Parking-clause-fault c =
    let named = c.in-Some.ensures.found in
    rw (← c.as_slice-names.ensures.value) (fault-parking c.args.points.now c.as_slice-names.result.now c.loop-k.k c.loop-k.cells.items c.index-names-k.result
    c.in-Some.point.now c.loop-k-test.true c.index-names-k.is c.loop-k.invariant.stations named c.in-Parking.is)

pub loop-k-preserved : goal.loop-k-preserved
loop-k-preserved c =
    let named = c.in-Some.ensures.found in
    let all = stations-more c.args.points.now c.as_slice-names.result.now c.loop-k.k c.loop-k.cells.items c.index-names-k.result
    c.in-Some.point.now c.loop-k-test.true c.index-names-k.is c.loop-k.invariant.stations named c.in-Station.is in
    record { stations = rw c.push.ensures.items all; count = search rules }
