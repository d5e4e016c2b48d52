-- between shortest paths and those that may be late
use Rattle.std.proofs.Common.{◌≡◌, ℕ, ◌+◌, ◌-◌, ◌*◌, ◌≤◌, List, [], length, take, drop, Option, Some, None, MatchOption, ap, ◌∙◌, subst, arith}
use Rattle.wh_grid.specs.declared.cell.Cell.{Cell}
use Rattle.wh_grid.specs.Grids.{Floor, passable_cells}
use Rattle.wh_resv.specs.Others.{Others}
use Rattle.wh_path.specs.Paths.{last_index}
use Rattle.wh_search.specs.Deliveries.{IsDelivery}
use Rattle.wh_search.specs.Parkings.{IsParking, IsLeastParking}
use Rattle.wh_search.specs.Tours.{IsTour, IsLeastTour}
use Rattle.wh_search.specs.declared.errand.Errand.{Errand}
use Rattle.wh_search.proofs.Parks.{parking_tour, tour_parking}
use Rattle.wh_search.proofs.Stops.{delivery_tour, tour_delivery, via_size}
use Rattle.wh_intervals.specs.Late.{IsLateAtMost, IsLateTour, IsLateDelivery, IsLateParking}
use Rattle.wh_intervals.specs.Tasks.{IsErrandOf, IsTaskOf}

-- a path than which none is shorter is not late at all
pub least_late : (Serves : List Cell → Type 0) (slack : ℕ) (p : List Cell) → ((q : List Cell) → Serves q → last_index p ≤ last_index q) → IsLateAtMost Serves slack p
least_late Serves slack p least = λ q s. omega (arith, least q s)

-- and one that is not late at all is such a path
pub late_least : (Serves : List Cell → Type 0) (p : List Cell) → IsLateAtMost Serves 0 p → (q : List Cell) → Serves q → last_index p ≤ last_index q
late_least Serves p late = λ q s. omega (arith, late q s)

pub tour_late : (g : Floor) (others : Others) (loc : Cell) (via ends : List Cell) (slack : ℕ) (p : List Cell) → IsLeastTour g others loc via ends p → IsLateTour g others loc via ends slack p
tour_late g others loc via ends slack p t = record { is_tour = t.is_tour; bounded = t.bounded; late = least_late (IsTour g others loc via ends) slack p t.least }

pub tour_least : (g : Floor) (others : Others) (loc : Cell) (via ends : List Cell) (o : Option (List Cell))
    → MatchOption o ((q : List Cell) → IsTour g others loc via ends q → ⊥) (λ p. IsLateTour g others loc via ends 0 p)
    → MatchOption o ((q : List Cell) → IsTour g others loc via ends q → ⊥) (λ p. IsLeastTour g others loc via ends p)
tour_least g others loc via ends None h = h
tour_least g others loc via ends (Some p) h = record { is_tour = h.is_tour; bounded = h.bounded; least = late_least (IsTour g others loc via ends) p h.late }

pub parking_late : (g : Floor) (others : Others) (loc : Cell) (allowed : List Cell) (slack : ℕ) (p : List Cell) → IsLeastParking g others loc allowed p → IsLateParking g others loc allowed slack p
parking_late g others loc allowed slack p t = record { is_parking = t.is_parking; bounded = t.bounded; late = least_late (IsParking g others loc allowed) slack p t.least }

pub parking_least : (g : Floor) (others : Others) (loc : Cell) (allowed p : List Cell) → IsLateParking g others loc allowed 0 p → IsLeastParking g others loc allowed p
parking_least g others loc allowed p t = record { is_parking = t.is_parking; bounded = t.bounded; least = late_least (IsParking g others loc allowed) p t.late }

-- what was found, in the words of a delivery
delivery_late : (g : Floor) (others : Others) (loc : Cell) (stops via ends : List Cell) (slack : ℕ) (o : Option (List Cell)) → 2 ≤ length stops → via ≡ take (length stops - 1) stops → ends ≡ drop (length stops - 1) stops
    → MatchOption o ((q : List Cell) → IsTour g others loc via ends q → ⊥) (λ p. IsLateTour g others loc via ends slack p)
    → MatchOption o ((q : List Cell) → IsDelivery g others loc stops q → ⊥) (λ p. IsLateDelivery g others loc stops slack p)
delivery_late g others loc stops via ends slack None many v e h = λ q d. h q (delivery_tour g others loc stops via ends q many v e d)
delivery_late g others loc stops via ends slack (Some p) many v e h =
    let size : length via + 1 ≡ length stops = (let z = ap length v ∙ via_size stops in omega arith) in
    let bound = ap (λ n. n * passable_cells g) size in
    record {
      lawful = record { is_delivery = tour_delivery g others loc stops via ends p many v e h.is_tour; bounded = (let b = h.bounded in omega arith) };
      late = λ q d. h.late q (delivery_tour g others loc stops via ends q many v e d);
    }

-- and of its task
pub task_late : (g : Floor) (others : Others) (loc : Cell) (stops : List Cell) (slack : ℕ) (e : Errand) (o : Option (List Cell)) → 2 ≤ length stops → IsTaskOf g others loc stops e
    → MatchOption o ((q : List Cell) → IsTour e.grid.now e.others.now e.loc e.via.now e.ends.now q → ⊥) (λ p. IsLateTour e.grid.now e.others.now e.loc e.via.now e.ends.now slack p)
    → MatchOption o ((q : List Cell) → IsDelivery g others loc stops q → ⊥) (λ p. IsLateDelivery g others loc stops slack p)
task_late g others loc stops slack e o many t found =
    let F : Floor → Others → Cell → Type 0 = λ x y z. MatchOption o ((q : List Cell) → IsDelivery x y z stops q → ⊥) (λ p. IsLateDelivery x y z stops slack p) in
    subst (λ (x : Floor). F x others loc) t.grid_is
    (subst (λ (y : Others). F e.grid.now y loc) t.others_are
    (subst (λ (z : Cell). F e.grid.now e.others.now z) t.from
    (delivery_late e.grid.now e.others.now e.loc stops e.via.now e.ends.now slack o many t.through t.to found)))

-- the same to park
parks_late : (g : Floor) (others : Others) (loc : Cell) (allowed : List Cell) (slack : ℕ) (o : Option (List Cell))
    → MatchOption o ((q : List Cell) → IsTour g others loc [] allowed q → ⊥) (λ p. IsLateTour g others loc [] allowed slack p)
    → MatchOption o ((q : List Cell) → IsParking g others loc allowed q → ⊥) (λ p. IsLateParking g others loc allowed slack p)
parks_late g others loc allowed slack None h = λ q d. h q (parking_tour g others loc allowed q d)
parks_late g others loc allowed slack (Some p) h =
    record { is_parking = tour_parking g others loc allowed p h.is_tour; bounded = (let b = h.bounded in omega arith); late = λ q d. h.late q (parking_tour g others loc allowed q d) }

pub parked_late : (g : Floor) (others : Others) (loc : Cell) (allowed : List Cell) (slack : ℕ) (e : Errand) (o : Option (List Cell)) → IsErrandOf g others loc [] allowed e
    → MatchOption o ((q : List Cell) → IsTour e.grid.now e.others.now e.loc e.via.now e.ends.now q → ⊥) (λ p. IsLateTour e.grid.now e.others.now e.loc e.via.now e.ends.now slack p)
    → MatchOption o ((q : List Cell) → IsParking g others loc allowed q → ⊥) (λ p. IsLateParking g others loc allowed slack p)
parked_late g others loc allowed slack e o t found =
    let F : Floor → Others → Cell → List Cell → List Cell → Type 0 = λ x y z v w. MatchOption o ((q : List Cell) → IsTour x y z v w q → ⊥) (λ p. IsLateTour x y z v w slack p) in
    parks_late g others loc allowed slack o
    (subst (λ (x : Floor). F x others loc [] allowed) t.grid_is
    (subst (λ (y : Others). F e.grid.now y loc [] allowed) t.others_are
    (subst (λ (z : Cell). F e.grid.now e.others.now z [] allowed) t.from
    (subst (λ (v : List Cell). F e.grid.now e.others.now e.loc v allowed) t.through
    (subst (λ (w : List Cell). F e.grid.now e.others.now e.loc e.via.now w) t.to found)))))
