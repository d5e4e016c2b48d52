-- between what a duty asks and what the search finds
use Rattle.std.proofs.Common.{◌≡◌, ◌≢◌, ℕ, ◌<◌, ◌∙◌, Bool, true, false, ◌==◌, ◌&&◌, List, [], length, get_or, Contains, Result, Ok, Err, IfErr, refl, sym, ap, subst, eqb-true, arith}
use Rattle.std.proofs.lemmas.List.{get_or_default}
use Rattle.std.specs.Cmp.{booleans_Decides}
use Rattle.std.specs.Cmp.Lexicographic.{pointwise}
use Rattle.std.proofs.Math.Bool.{beq}
use Rattle.std.proofs.lemmas.Slice.Eq.{slice_eq-Decides}
use Rattle.wh_grid.specs.declared.cell.Cell.{Cell}
use Rattle.wh_grid.specs.Grids.{Floor, IsPassable, same_floor}
use Rattle.wh_grid.proofs.Removed.{all_removed-from}
use Rattle.wh_path.specs.Paths.{at, path_of, place_of, others, IsWalk, AllFree}
use Rattle.wh_resv.specs.Others.{Others}
use Rattle.wh_resv.specs.Calls.{IsVacant}
use Rattle.wh_search.specs.declared.fault.Fault.{Fault}
use Rattle.wh_search.specs.declared.fault.Fault.TheVariants.{NoPath}
use Rattle.wh_search.specs.Deliveries.{IsDelivery, IsLawful as IsSearchLawful, IfNoPath}
use Rattle.wh_search.specs.Parkings.{IsParking}
use Rattle.wh_intervals.specs.Late.{IsLateAtMost, IsLateParking}
use Rattle.wh_planner.specs.declared.duty.Duty.{Duty}
use Rattle.wh_planner.specs.declared.duty.Duty.TheVariants.{Deliver, Park}
use Rattle.wh_planner.specs.Duties.{Delivers, ParksAt, IsLawful, HasNoClearWay}
use Rattle.wh_planner.specs.Asked.{IsDuty, Serves, legs}
use Rattle.wh_planner.proofs.ClearWays.{clear_delivery-lawful, clear_parking-lawful}
use Rattle.wh_planners.specs.Services.{IsService, HasNoService, HasNoShorter, others_of}

-- grids that a test finds the same are the same
both_of : (s t : Bool) → (s && t) ≡ true → (s ≡ true) × (t ≡ true)
both_of true true e = (refl, refl)
both_of true false e = absurd (let f = e in cc)
both_of false t e = absurd (let f = e in cc)

pub floor_is : (g h : Floor) → same_floor g h ≡ true → g ≡ h
floor_is g h e =
    let rows = pointwise beq g.walkable h.walkable in
    let both = both_of ((g.width == h.width) && (g.height == h.height)) rows e in
    let sides = both_of (g.width == h.width) (g.height == h.height) both.0 in
    let w = eqb-true g.width h.width sides.0 in
    let t = eqb-true g.height h.height sides.1 in
    let s = (slice_eq-Decides booleans_Decides g.walkable h.walkable rows refl).0 both.1 in
    λ i. record { width = w i; height = t i; walkable = s i }

module _ (g : Floor) (nofollow : Bool) (paths : List (List Cell)) (agent : ℕ) where
  pub service_of : (legs : ℕ) (Serves : List Cell → Type 0) (path : List Cell) → IsLawful g nofollow paths agent legs Serves path → IsService g nofollow paths agent Serves path
  service_of legs Serves path l = record { walk = l.walk; starts_here = l.starts_here; free = l.free; serves = l.serves }

  -- from a cell that is not passable nobody goes anywhere
  pub no_service : (Serves : List Cell → Type 0) → ¬ IsPassable g (place_of paths agent) → HasNoService g nofollow paths agent Serves
  no_service Serves blocked path s = blocked (subst (IsPassable g) s.starts_here (s.walk.passable 0))

  service_delivery : (stops path : List Cell) → IsService g nofollow paths agent (Delivers stops) path → IsDelivery g (others_of nofollow paths agent) (place_of paths agent) stops path
  service_delivery stops path s = record { starts = s.starts_here; walk = s.walk; free = s.free; visits = s.serves.visits; delivers = s.serves.ends_there }

  service_parking : (allowed path : List Cell) → IsService g nofollow paths agent (ParksAt (Contains allowed)) path → IsParking g (others_of nofollow paths agent) (place_of paths agent) allowed path
  service_parking allowed path s = record { starts = s.starts_here; walk = s.walk; free = s.free; parks = s.serves }

  -- what the search found from the same cell, beside the same others
  module _ (seen : Others) (loc : Cell) (same : seen ≡ others_of nofollow paths agent) (here : loc ≡ place_of paths agent) where
    pub lawful_delivery : (stops path : List Cell) → IsSearchLawful g seen loc stops path → IsLawful g nofollow paths agent (length stops) (Delivers stops) path
    lawful_delivery stops path found =
        let l = subst (λ (c : Cell). IsSearchLawful g (others_of nofollow paths agent) c stops path) here (subst (λ (o : Others). IsSearchLawful g o loc stops path) same found) in
        let d = l.is_delivery in
        record { walk = d.walk; starts_here = d.starts; free = d.free; bounded = l.bounded; serves = record { visits = d.visits; ends_there = d.delivers } }

    delivery_seen : (stops path : List Cell) → IsService g nofollow paths agent (Delivers stops) path → IsDelivery g seen loc stops path
    delivery_seen stops path s =
        subst (λ (o : Others). IsDelivery g o loc stops path) (sym same) (subst (λ (c : Cell). IsDelivery g (others_of nofollow paths agent) c stops path) (sym here) (service_delivery stops path s))

    pub late_delivery : (stops : List Cell) (slack : ℕ) (path : List Cell) → IsLateAtMost (IsDelivery g seen loc stops) slack path → HasNoShorter g nofollow paths agent (Delivers stops) slack path
    late_delivery stops slack path late other s = late other (delivery_seen stops other s)

    pub no_delivery : (stops : List Cell) → ((q : List Cell) → IsDelivery g seen loc stops q → ⊥) → HasNoService g nofollow paths agent (Delivers stops)
    no_delivery stops none path s = none path (delivery_seen stops path s)

    pub lawful_parking : (allowed : List Cell) (slack : ℕ) (path : List Cell) → IsLateParking g seen loc allowed slack path → IsLawful g nofollow paths agent 2 (ParksAt (Contains allowed)) path
    lawful_parking allowed slack path found =
        let l = subst (λ (c : Cell). IsLateParking g (others_of nofollow paths agent) c allowed slack path) here (subst (λ (o : Others). IsLateParking g o loc allowed slack path) same found) in
        let p = l.is_parking in
        record { walk = p.walk; starts_here = p.starts; free = p.free; bounded = l.bounded; serves = p.parks }

    parking_seen : (allowed path : List Cell) → IsService g nofollow paths agent (ParksAt (Contains allowed)) path → IsParking g seen loc allowed path
    parking_seen allowed path s =
        subst (λ (o : Others). IsParking g o loc allowed path) (sym same) (subst (λ (c : Cell). IsParking g (others_of nofollow paths agent) c allowed path) (sym here) (service_parking allowed path s))

    pub late_parking : (allowed : List Cell) (slack : ℕ) (path : List Cell) → IsLateParking g seen loc allowed slack path → HasNoShorter g nofollow paths agent (ParksAt (Contains allowed)) slack path
    late_parking allowed slack path found other s = found.late other (parking_seen allowed other s)

    pub no_parking : (allowed : List Cell) → ((q : List Cell) → IsParking g seen loc allowed q → ⊥) → HasNoService g nofollow paths agent (ParksAt (Contains allowed))
    no_parking allowed none path s = none path (parking_seen allowed path s)

  module _ (known : agent < length paths) (walk : IsWalk g (path_of paths agent)) (free : AllFree nofollow paths) where
    -- where the agent is nobody else is
    pub here_vacant : (seen : Others) (loc : Cell) → seen ≡ others_of nofollow paths agent → loc ≡ place_of paths agent → IsVacant seen.paths loc 0
    here_vacant seen loc same here =
        let c = place_of paths agent in
        let vacant : IsVacant (others paths agent) c 0 = all_removed-from (λ q. at q 0 ≢ c) paths agent
        (λ j d h ne e. (free.pair agent j known h (λ s. ne (sym s))).apart 0 (sym e ∙ ap (λ (q : List Cell). at q 0) (get_or_default paths j d [] h))) in
        subst (λ (o : Others). IsVacant o.paths loc 0) (sym same) (subst (λ (b : Cell). IsVacant (others paths agent) b 0) (sym here) vacant)

    -- where no path serves, there is no clear way
    pub no_way : (duty : Duty) → IsDuty duty → HasNoService g nofollow paths agent (Serves duty) → HasNoClearWay g paths agent (Serves duty)
    no_way (Deliver stops) is none way clear =
        let l = clear_delivery-lawful g nofollow paths agent stops.now way (record { known = known; walk = walk; free = free }) (let h = is.0 in omega arith) clear in
        none l.0 (service_of (length stops.now) (Delivers stops.now) l.0 l.1)
    no_way (Park allowed) is none way clear =
        let l = clear_parking-lawful g nofollow paths agent (Contains allowed.now) way (record { known = known; walk = walk; free = free }) clear in
        none l.0 (service_of 2 (ParksAt (Contains allowed.now)) l.0 l.1)

-- the path that is read is the agent's
pub own_is : (all paths : List (List Cell)) (agent : ℕ) (mine : List Cell) → agent < length paths → all ≡ paths → mine ≡ get_or all agent mine → mine ≡ path_of paths agent
own_is all paths agent mine known same read =
    read ∙ ap (λ (ps : List (List Cell)). get_or ps agent mine) same ∙ get_or_default paths agent mine [] known

-- the cell from which the search sets out is the agent's
pub loc_is : (all paths : List (List Cell)) (agent : ℕ) (mine : List Cell) (loc : Cell) → agent < length paths → all ≡ paths → mine ≡ get_or all agent mine →
    loc ≡ at mine 0 → loc ≡ place_of paths agent
loc_is all paths agent mine loc known same read e =
    e ∙ ap (λ (q : List Cell). at q 0) (read ∙ ap (λ (ps : List (List Cell)). get_or ps agent mine) same ∙ get_or_default paths agent mine [] known)

-- what the search says of the answer that there is no path
pub no_path : (f : Fault) (P : Type 0) → f ≡ NoPath → (let r : Result (List Cell) Fault = Err f in IfNoPath r P) → P
no_path f P e h = subst (λ (x : Fault). let r : Result (List Cell) Fault = Err x in IfNoPath r P) e h

-- what one answer says, carried over to what it means
pub err-map : {T E A B : Type 0} → (r : Result T E) (fault : E) → (A → B) → IfErr r (λ f. f ≡ fault → A) → IfErr r (λ f. f ≡ fault → B)
err-map (Ok x) fault f h = h
err-map (Err e) fault f h = λ same. f (h same)
