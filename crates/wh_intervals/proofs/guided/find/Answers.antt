use Rattle.std.proofs.Common.{◌≡◌, ℕ, IfSome, ◌+◌, ◌-◌, ◌*◌, ◌≤◌, List, length, take, drop, MatchOption, refl, ap, sym, subst, ◌∙◌, arith}
use Rattle.std.proofs.lemmas.Nat.{mul-le}
use Rattle.wh_grid.specs.declared.cell.Cell.{Cell}
use Rattle.wh_grid.specs.Grids.{passable_cells}
use Rattle.wh_path.specs.Paths.{last_index}
use Rattle.wh_search.specs.Deliveries.{IsDelivery, IsLeast, longest}
use Rattle.wh_search.specs.Guides.{IsOnward, stops_estimate}
use Rattle.wh_intervals.specs.Efforts.{IsExpandedOf, IsSearchOf}
use Rattle.wh_search.specs.Tours.{IsTour}
use Rattle.wh_intervals.specs.Late.{IsLateTour}
use Rattle.wh_intervals.proofs.Late.{tour_least}
use Rattle.wh_search.proofs.Stops.{ok_weaker, some_weaker, path_weaker, tour_delivery, delivery_ends, delivery_rests, stops_estimates, via_size, last_part}
use Rattle.wh_intervals.proofs.guided.find.Goals as goal

pub returns-in_default-clause-found : goal.returns-in_default-clause-found
returns-in_default-clause-found c = λ q d. c.in_default.ensures.none (last_index q) (delivery_rests c.args.grid.now c.args.others.now c.args.loc c.args.stops.now q d)

pub search-requires-clause-errand : goal.search-requires-clause-errand
search-requires-clause-errand c =
    let o = c.args.others.now in
    let g = c.args.grid.now in
    let stops = c.args.stops.now in
    let n = length stops - 1 in
    let via = take n stops in
    let ends = take (length stops - n) (drop n stops) in
    let many = c.requires.stops.0 in
    let few = c.requires.stops.1 in
    let cells : c.from.result ≡ passable_cells g = c.from.ensures ∙ c.cells.ensures.value in
    let small : length stops * c.from.result ≤ 9 * 4294967296 = mul-le (length stops) c.from.result 9 4294967296 few (omega (arith, c.from.ensures)) in
    let size : length via + 1 ≡ length stops = (let z = via_size stops in omega arith) in
    let product : (length via + 1) * passable_cells g ≡ length stops * c.from.result = ap (λ k. k * passable_cells g) size ∙ ap (λ k. length stops * k) (sym cells) in
    let on : IsOnward c.args.fields.now stops c.deref.result.now = subst (IsOnward c.args.fields.now stops) (sym c.deref.ensures.value) c.in_ok-onward.ensures in
    record {
      inside = c.requires.inside;
      arrives = c.arrive.ensures;
      limit_is = omega (arith, c.horizon-horizon.ensures.value);
      small = omega (arith, c.horizon-horizon.ensures.bound);
      guided = stops_estimates g stops via ends c.args.fields.now c.deref.result.now many refl (last_part stops) c.requires.fields on;
      none_before = λ q t. omega (arith, c.first_end.ensures (last_index q) (delivery_ends g o c.args.loc stops q (tour_delivery g o c.args.loc stops via ends q many refl (last_part stops) t)));
    }

pub returns-clause-found : goal.returns-clause-found
returns-clause-found c =
    let o = c.args.others.now in
    let g = c.args.grid.now in
    let stops = c.args.stops.now in
    let n = length stops - 1 in
    let via = take n stops in
    let ends = take (length stops - n) (drop n stops) in
    ok_weaker c.search.result
    (λ found. MatchOption found ((q : List Cell) → IsTour g o c.args.loc via ends q → ⊥) (λ p. IsLateTour g o c.args.loc via ends 0 p))
    (λ found. MatchOption found ((q : List Cell) → IsDelivery g o c.args.loc stops q → ⊥) (λ p. IsLeast g o c.args.loc stops p))
    (λ found h. path_weaker g o c.args.loc stops via ends found c.requires.stops.0 refl (last_part stops) (tour_least g o c.args.loc via ends found h)) c.search.ensures.found

pub returns-clause-expanded : goal.returns-clause-expanded
returns-clause-expanded c =
    let o = c.args.others.now in
    let g = c.args.grid.now in
    let stops = c.args.stops.now in
    let onward = c.deref.result.now in
    let cells : c.from.result ≡ passable_cells g = c.from.ensures ∙ c.cells.ensures.value in
    let limit = c.horizon-horizon.result + length stops * c.from.result in
    let size : limit ≡ longest g o stops = ap (λ k. c.horizon-horizon.result + length stops * k) cells ∙ ap (λ k. k + length stops * passable_cells g) c.horizon-horizon.ensures.value in
    let Expanded : ℕ → ℕ → Type 0 = λ limit n. IsExpandedOf g o (take (length stops - 1) stops) c.args.loc (stops_estimate c.args.fields.now onward) c.first_end.result limit n c.search.new.expanded in
    let on : IsOnward c.args.fields.now stops onward = subst (IsOnward c.args.fields.now stops) (sym c.deref.ensures.value) c.in_ok-onward.ensures in
    ok_weaker c.search.result
    (λ found. IfSome found (λ p. 0 ≡ 0 → Expanded limit (last_index p)))
    (λ found. IfSome found (λ p. IsSearchOf g o c.args.loc stops c.args.fields.now (last_index p) c.search.new.expanded))
    (λ found h. some_weaker found (λ p. 0 ≡ 0 → Expanded limit (last_index p)) (λ p. IsSearchOf g o c.args.loc stops c.args.fields.now (last_index p) c.search.new.expanded)
    (λ p x. let y : Expanded (longest g o stops) (last_index p) = subst (λ (k : ℕ). Expanded k (last_index p)) size (x refl) in
    record { stays = y.stays; number = y.number; search = record { onward = onward; by_fields = on; soonest = c.first_end.result; not_sooner = c.first_end.ensures; expanded = y.expanded } }) h) c.search.ensures.expanded
