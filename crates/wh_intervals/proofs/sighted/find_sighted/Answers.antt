use Rattle.std.proofs.Common.{List, MatchOption}
use Rattle.wh_grid.specs.declared.cell.Cell.{Cell}
use Rattle.wh_path.specs.Paths.{last_index}
use Rattle.wh_search.specs.Deliveries.{IsDelivery}
use Rattle.wh_search.specs.Tours.{IsTour}
use Rattle.wh_intervals.specs.Late.{IsLateTour, IsLateDelivery}
use Rattle.wh_search.proofs.Stops.{ok_weaker, delivery_rests}
use Rattle.wh_intervals.proofs.Late.{task_late}
use Rattle.wh_intervals.proofs.sighted.find_sighted.Goals as goal

pub returns-in_default-clause-found : goal.returns-in_default-clause-found
returns-in_default-clause-found c = λ q d. c.in_default.ensures.none (last_index q) (delivery_rests c.args.grid.now c.args.others.now c.args.loc c.args.stops.now q d)

pub sighted_errand-errand-requires-clause-soonest : goal.sighted_errand-errand-requires-clause-soonest
sighted_errand-errand-requires-clause-soonest c = λ k. (c.in-Some.ensures.some k, c.in-Some.ensures.since k)

pub returns-clause-found : goal.returns-clause-found
returns-clause-found c =
    let g = c.args.grid.now in
    let o = c.args.others.now in
    let stops = c.args.stops.now in
    let e = c.sighted_errand-errand.result in
    ok_weaker c.find_least.result
    (λ found. MatchOption found ((q : List Cell) → IsTour e.grid.now e.others.now e.loc e.via.now e.ends.now q → ⊥) (λ p. IsLateTour e.grid.now e.others.now e.loc e.via.now e.ends.now c.args.slack p))
    (λ found. MatchOption found ((q : List Cell) → IsDelivery g o c.args.loc stops q → ⊥) (λ p. IsLateDelivery g o c.args.loc stops c.args.slack p))
    (λ found h. task_late g o c.args.loc stops c.args.slack e found c.requires.stops.0 c.sighted_errand-errand.ensures.task h) c.find_least.ensures.found
