use Rattle.std.proofs.Common.{List, Some}
use Rattle.wh_grid.specs.declared.cell.Cell.{Cell}
use Rattle.wh_path.specs.Paths.{last_index}
use Rattle.wh_search.specs.Deliveries.{IsDelivery}
use Rattle.wh_search.proofs.Stops.{ok_weaker, delivery_rests}
use Rattle.wh_intervals.specs.Late.{IsLateAtMost}
use Rattle.wh_intervals.proofs.Late.{least_late}
use Rattle.wh_intervals.proofs.Tasks.{task_found}
use Rattle.wh_detours.proofs.Detours.{delivers_errand, no_path_weaker}
use Rattle.wh_detours.proofs.round.deliver_round.Goals as goal

pub returns-in_default-clause-none : goal.returns-in_default-clause-none
returns-in_default-clause-none c = λ q d. c.in_default.ensures.none (last_index q) (delivery_rests c.args.grid.now c.args.others.now c.args.loc c.args.stops.now q d)

pub returns-in-Some-found-clause-lawful : goal.returns-in-Some-found-clause-lawful
returns-in-Some-found-clause-lawful c =
    let e = c.sighted_errand-errand in
    (task_found c.args.grid.now c.args.others.now c.args.loc c.args.stops.now e.result (Some c.in-Some-found.path) c.requires.stops.0 e.ensures.task (rw c.in-Some-found.is at c.in-Ok-straight_or_bound.ensures.found)).lawful

pub returns-in-Some-found-clause-late : goal.returns-in-Some-found-clause-late
returns-in-Some-found-clause-late c =
    let e = c.sighted_errand-errand in
    least_late (IsDelivery c.args.grid.now c.args.others.now c.args.loc c.args.stops.now) c.args.slack c.in-Some-found.path (task_found c.args.grid.now c.args.others.now c.args.loc c.args.stops.now e.result (Some c.in-Some-found.path) c.requires.stops.0 e.ensures.task (rw c.in-Some-found.is at c.in-Ok-straight_or_bound.ensures.found)).least

pub returns-clause-late : goal.returns-clause-late
returns-clause-late c =
    let g = c.args.grid.now in
    let o = c.args.others.now in
    let stops = c.args.stops.now in
    let e = c.sighted_errand-errand in
    ok_weaker c.deliver_beyond.result (IsLateAtMost (IsDelivery e.result.grid.now e.result.others.now e.result.loc stops) c.args.slack)
    (IsLateAtMost (IsDelivery g o c.args.loc stops) c.args.slack)
    (λ p h q d. h q (delivers_errand g o c.args.loc stops q e.result e.ensures.task d)) c.deliver_beyond.ensures.late

pub returns-clause-none : goal.returns-clause-none
returns-clause-none c =
    let g = c.args.grid.now in
    let o = c.args.others.now in
    let stops = c.args.stops.now in
    let e = c.sighted_errand-errand in
    no_path_weaker c.deliver_beyond.result ((q : List Cell) → IsDelivery e.result.grid.now e.result.others.now e.result.loc stops q → ⊥) ((q : List Cell) → IsDelivery g o c.args.loc stops q → ⊥)
    (λ h q d. h q (delivers_errand g o c.args.loc stops q e.result e.ensures.task d)) c.deliver_beyond.ensures.none
