-- clear ways and routes from stop to stop
use Rattle.std.proofs.Common.{ℕ, ◌<◌, ◌≤◌, ◌∙◌, List, [], ◌∷◌, length, subst, arith}
use Rattle.std.specs.Prelude.{◌↔◌, Contains}
use Rattle.wh_grid.specs.declared.cell.Cell.{Cell}
use Rattle.wh_grid.specs.Grids.{Floor, IsPassable, passable_cells}
use Rattle.wh_path.specs.Paths.{end_of, at, last_index, others, ends}
use Rattle.wh_path.proofs.Trips.{IsTrip, trip-short, run_of, at-run_of, all-run_of, end-run_of, last-run_of, walk-run_of}
use Rattle.wh_path.proofs.Tours.{last_of, last_of-is, Legs, Tour, tour-legs, legs-along}
use Rattle.wh_field.specs.Distances.{IsRoute, IsLeastRoute}
use Rattle.wh_planner.specs.Duties.{Delivers, IsClearWay, HasRoutes}

-- a passable cell that is none of these
pub record IsOff (g : Floor) (avoid : List Cell) (c : Cell) : Type 0 where
  pub passable : IsPassable g c
  pub off : ¬ Contains avoid c

pub off-passable : (g : Floor) (avoid : List Cell) (c : Cell) → IsOff g avoid c → IsPassable g c
off-passable g avoid c o = o.passable

-- a route as a trip, and back
trip-of : (g : Floor) (avoid : List Cell) (from to : Cell) (walk : List Cell) → IsRoute g from to avoid walk →
    IsTrip (IsOff g avoid) (λ k. at walk k) (last_index walk) from to
trip-of g avoid from to walk route = record {
  starts = route.walk.starts;
  arrives = route.walk.ends;
  ok = λ k le. record { passable = route.walk.walk.passable k; off = route.avoids k };
  moves = λ k lt. route.walk.walk.moves k;
}

pub route-of : (g : Floor) (avoid : List Cell) (from to : Cell) (f : ℕ → Cell) (n : ℕ) → IsTrip (IsOff g avoid) f n from to → IsRoute g from to avoid (run_of f n)
route-of g avoid from to f n trip = record {
  walk = record {
    walk = walk-run_of g f n (λ k le. (trip.ok k le).passable) trip.moves;
    starts = at-run_of f n 0 (omega arith) ∙ trip.starts;
    ends = end-run_of f n ∙ trip.arrives;
  };
  avoids = all-run_of (λ c. ¬ Contains avoid c) f n (λ k le. (trip.ok k le).off);
}

pub least_short : (g : Floor) (from to : Cell) (avoid walk : List Cell) → IsLeastRoute g from to avoid walk → last_index walk < passable_cells g
least_short g from to avoid walk least =
    let short = trip-short g (IsOff g avoid) (off-passable g avoid) (last_index walk) (λ k. at walk k) from to (trip-of g avoid from to walk least.route) in
    let le = least.least (run_of short.f short.n) (route-of g avoid from to short.f short.n short.trip) in
    let is = last-run_of short.f short.n in
    let few = short.short in
    omega arith

routes-from : (g : Floor) (avoid : List Cell) (from : Cell) (stops : List Cell) → Legs g (IsOff g avoid) from stops → HasRoutes g avoid from stops
routes-from g avoid from [] legs = tt
routes-from g avoid from (stop ∷ stops) legs =
    let leg = legs.0 in
    ((run_of leg.f leg.n, route-of g avoid from stop leg.f leg.n leg.trip), routes-from g avoid stop stops legs.1)

legs-from : (g : Floor) (avoid : List Cell) (from : Cell) (stops : List Cell) → IsOff g avoid from → HasRoutes g avoid from stops → Legs g (IsOff g avoid) from stops
legs-from g avoid from [] here routes = here
legs-from g avoid from (stop ∷ stops) here routes =
    let walk = routes.0.0 in
    let trip = trip-of g avoid from stop walk routes.0.1 in
    let there : IsOff g avoid stop = subst (λ c. IsOff g avoid c) trip.arrives (trip.ok (last_index walk) (omega arith)) in
    (trip-short g (IsOff g avoid) (off-passable g avoid) (last_index walk) (λ k. at walk k) from stop trip, legs-from g avoid stop stops there routes.1)

-- a trip that meets no other's end, written out, is a clear way
pub trip-clear : (g : Floor) (paths : List (List Cell)) (agent : ℕ) (Serves : List Cell → Type 0) (f : ℕ → Cell) (n : ℕ) (to : Cell) →
    IsTrip (IsOff g (ends (others paths agent))) f n (end_of paths agent) to → Serves (run_of f n) → IsClearWay g paths agent Serves (run_of f n)
trip-clear g paths agent Serves f n to trip serves =
    let route = route-of g (ends (others paths agent)) (end_of paths agent) to f n trip in
    record { walk = route.walk.walk; starts_here = route.walk.starts; clear = route.avoids; serves = serves }

-- a tour, written out, serves a delivery
delivers-tour : (g : Floor) (Ok : Cell → Type 0) (from : Cell) (stops : List Cell) → 1 ≤ length stops → (tour : Tour g Ok from stops) → Delivers stops (run_of tour.f tour.n)
delivers-tour g Ok from [] some tour = absurd (omega arith)
delivers-tour g Ok from (stop ∷ stops) some tour = record {
  visits = record {
    when = tour.when;
    in_order = tour.in_order;
    there = λ i lt. at-run_of tour.f tour.n (tour.when i) (tour.in_time i) ∙ tour.there i lt;
  };
  ends_there = end-run_of tour.f tour.n ∙ tour.trip.arrives ∙ last_of-is from stop stops;
}

-- a clear way through the legs
pub way-legs : (g : Floor) (paths : List (List Cell)) (agent : ℕ) (stops : List Cell) → 1 ≤ length stops →
    Legs g (IsOff g (ends (others paths agent))) (end_of paths agent) stops → (way : List Cell) × IsClearWay g paths agent (Delivers stops) way
way-legs g paths agent stops some legs =
    let Ok = IsOff g (ends (others paths agent)) in
    let here = end_of paths agent in
    let tour = tour-legs g Ok here stops legs in
    (run_of tour.f tour.n, trip-clear g paths agent (Delivers stops) tour.f tour.n (last_of here stops) tour.trip (delivers-tour g Ok here stops some tour))

-- the legs of a clear way
pub legs-way : (g : Floor) (paths : List (List Cell)) (agent : ℕ) (stops way : List Cell) → IsClearWay g paths agent (Delivers stops) way →
    Legs g (IsOff g (ends (others paths agent))) (end_of paths agent) stops
legs-way g paths agent stops way clear =
    let Ok = IsOff g (ends (others paths agent)) in
    let visits = clear.serves.visits in
    let off : (k : ℕ) → Ok (at way k) = λ k. record { passable = clear.walk.passable k; off = clear.clear k } in
    legs-along g Ok (off-passable g (ends (others paths agent))) (λ k. at way k) off clear.walk.moves
    (end_of paths agent) stops 0 clear.starts_here visits.when (omega arith) visits.in_order visits.there

pub clear_ways_by_stops : (g : Floor) (paths : List (List Cell)) (agent : ℕ) (stops : List Cell) → 1 ≤ length stops →
    ((way : List Cell) × IsClearWay g paths agent (Delivers stops) way)
    ↔ HasRoutes g (ends (others paths agent)) (end_of paths agent) stops
clear_ways_by_stops g paths agent [] some = absurd (omega arith)
clear_ways_by_stops g paths agent (stop ∷ stops) some =
    let avoid = ends (others paths agent) in
    let here = end_of paths agent in (
      λ way. routes-from g avoid here (stop ∷ stops) (legs-way g paths agent (stop ∷ stops) way.0 way.1),
      λ routes.
          let trip = trip-of g avoid here stop routes.0.0 routes.0.1 in
          let off : IsOff g avoid here = subst (λ c. IsOff g avoid c) trip.starts (trip.ok 0 (omega arith)) in
          way-legs g paths agent (stop ∷ stops) some (legs-from g avoid here (stop ∷ stops) off routes),
    )
