use Rattle.std.proofs.Common.{List}
use Rattle.wh_grid.specs.declared.cell.Cell.{Cell}
use Rattle.wh_search.specs.Deliveries.{IsDelivery, IsLawful}
use Rattle.wh_search.proofs.Stops.{ok_weaker}
use Rattle.wh_intervals.specs.Late.{IsLateAtMost}
use Rattle.wh_detours.proofs.Closing.{delivers_left, lawful_left, start_open, sights_left}
use Rattle.wh_detours.proofs.Detours.{no_path_weaker}
use Rattle.wh_detours.proofs.round.deliver_without.Goals as goal

pub sights_over-all-requires-clause-sights : goal.sights_over-all-requires-clause-sights
sights_over-all-requires-clause-sights c = sights_left c.args.errand.now.grid.now c.in-Ok.without c.args.errand.now.others.now c.args.errand.now.loc c.args.stops.now c.args.sights.now c.in-Ok.ensures c.requires.sights

pub deliver_over-requires-clause-inside : goal.deliver_over-requires-clause-inside
deliver_over-requires-clause-inside c =
    let e = c.args.errand.now in
    start_open e.grid.now c.in-Ok.without e.others.now e.loc c.in-Ok.ensures c.requires.inside c.requires.clear

pub returns-clause-lawful : goal.returns-clause-lawful
returns-clause-lawful c =
    let e = c.args.errand.now in
    let stops = c.args.stops.now in
    ok_weaker c.deliver_over.result (λ p. IsLawful c.in-Ok.without e.others.now e.loc stops p) (λ p. IsLawful e.grid.now e.others.now e.loc stops p)
    (λ p. lawful_left e.grid.now c.in-Ok.without e.others.now e.loc stops p c.in-Ok.ensures) c.deliver_over.ensures.lawful

pub returns-clause-late : goal.returns-clause-late
returns-clause-late c =
    let e = c.args.errand.now in
    let stops = c.args.stops.now in
    ok_weaker c.deliver_over.result (IsLateAtMost (IsDelivery c.in-Ok.without e.others.now e.loc stops) c.args.slack)
    (IsLateAtMost (IsDelivery e.grid.now e.others.now e.loc stops) c.args.slack)
    (λ p h q d. h q (delivers_left e.grid.now c.in-Ok.without e.others.now e.loc stops q c.in-Ok.ensures d)) c.deliver_over.ensures.late

pub returns-clause-none : goal.returns-clause-none
returns-clause-none c =
    let e = c.args.errand.now in
    let stops = c.args.stops.now in
    no_path_weaker c.deliver_over.result ((q : List Cell) → IsDelivery c.in-Ok.without e.others.now e.loc stops q → ⊥) ((q : List Cell) → IsDelivery e.grid.now e.others.now e.loc stops q → ⊥)
    (λ h q d. h q (delivers_left e.grid.now c.in-Ok.without e.others.now e.loc stops q c.in-Ok.ensures d)) c.deliver_over.ensures.none
