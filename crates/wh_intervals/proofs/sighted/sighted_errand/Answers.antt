use Rattle.std.proofs.Common.{◌≡◌, ◌+◌, ◌-◌, ◌*◌, ◌≤◌, List, length, take, drop, Contains, refl, ap, sym, subst, ◌∙◌, arith}
use Rattle.std.proofs.lemmas.Nat.{mul-le}
use Rattle.wh_grid.specs.declared.cell.Cell.{Cell}
use Rattle.wh_grid.specs.Grids.{passable_cells}
use Rattle.wh_path.specs.Paths.{last_index, cell_at}
use Rattle.wh_resv.specs.Others.{MayRest}
use Rattle.wh_search.specs.declared.errand.Errand.{Errand}
use Rattle.wh_search.proofs.Stops.{tour_delivery, delivery_ends, via_size, last_only, last_part, one_only}
use Rattle.wh_intervals.proofs.Over.{estimates_over}
use Rattle.wh_intervals.proofs.sighted.sighted_errand.Goals as goal

pub first_end-requires : goal.first_end-requires
first_end-requires c = λ k. (c.requires.soonest k).0

pub with_waits-requires : goal.with_waits-requires
with_waits-requires c =
    let g = c.args.grid.now in
    let stops = c.args.stops.now in
    let n = length stops - 1 in
    let via = take n stops in
    let ends = take (length stops - n) (drop n stops) in
    let many = c.requires.stops.0 in
    let few = c.requires.stops.1 in
    let cells : c.from.result ≡ passable_cells g = c.from.ensures ∙ c.cells.ensures.value in
    let small : length stops * c.from.result ≤ 9 * 4294967296 = mul-le (length stops) c.from.result 9 4294967296 few (omega (arith, c.from.ensures)) in
    let size : length via + 1 ≡ length stops = (let z = via_size stops in omega arith) in
    let product : (length via + 1) * passable_cells g ≡ length stops * c.from.result = ap (λ k. k * passable_cells g) size ∙ ap (λ k. length stops * k) (sym cells) in
    record {
      errand = record {
        inside = c.requires.inside;
        arrives = c.arrive.ensures;
        horizon_is = c.horizon-horizon.ensures.value;
        limit_is = omega (arith, c.horizon-horizon.ensures.value);
        small = omega (arith, c.horizon-horizon.ensures.bound);
        guided = estimates_over g stops via ends c.args.sights.now c.args.onward.now many refl (last_part stops) c.requires.sights c.requires.onward;
        not_sooner = λ k s e.
            let is : cell_at stops n ≡ s.cell = one_only (cell_at stops n) s.cell (subst (λ (w : List Cell). Contains w s.cell) (last_part stops ∙ last_only stops n (omega arith)) e.delivered) in
            (c.requires.soonest k).0 (subst (λ (d : Cell). MayRest c.args.others.now d k) (sym is) e.rests);
        exact = λ t k end b since.
            let is : cell_at stops n ≡ end = one_only (cell_at stops n) end (subst (λ (w : List Cell). Contains w end) (last_part stops ∙ last_only stops n (omega arith)) b) in
            subst (λ (d : Cell). MayRest c.args.others.now d k) is ((c.requires.soonest k).1 since);
        none_before = λ q t. c.first_end.ensures.none (last_index q) (delivery_ends g c.args.others.now c.args.loc stops q (tour_delivery g c.args.others.now c.args.loc stops via ends q many refl (last_part stops) t));
      };
    }

pub returns-clause-task : goal.returns-clause-task
returns-clause-task c =
    let same = c.with_waits.ensures.same in
    record {
      grid_is = ap (λ (e : Errand). e.grid.now) same;
      others_are = ap (λ (e : Errand). e.others.now) same;
      from = ap (λ (e : Errand). e.loc) same;
      through = ap (λ (e : Errand). e.via.now) same;
      to = ap (λ (e : Errand). e.ends.now) same ∙ last_part c.args.stops.now;
    }
