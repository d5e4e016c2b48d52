-- the patient path: as it grows by a leg, and what it is in the end
use Rattle.std.proofs.Common.{◌≡◌, ◌≢◌, ℕ, ◌+◌, ◌-◌, ◌*◌, ◌<◌, ◌≤◌, ◌∙◌, inl, inr, List, [], ◌∷◌, ◌++◌, Bool, true, false, cond, leb, length, refl, sym, ap, subst, arith}
use Rattle.std.proofs.lemmas.Nat.{mul-le}
use Prim.Native.Nat.{zero, suc}
use Rattle.std.specs.Prelude.{All, Contains}
use Rattle.std.proofs.lemmas.Bool.{cases_lt}
use Rattle.std.proofs.lemmas.List.{get_or_default}
use Rattle.wh_grid.specs.declared.cell.Cell.{Cell}
use Rattle.wh_grid.specs.Grids.{Floor, IsPassable, passable_cells}
use Rattle.wh_path.specs.Paths.{at, end, cell_at, last_index, path_of, others, ends, horizon, IsWalk, IsFree, AllFree}
use Rattle.wh_path.proofs.AtLemmas.{at-one, at-old, at-new, at-beyond}
use Rattle.std.proofs.lemmas.List.{length_push}
use Rattle.wh_grid.proofs.Removed.{all_removed-at, all_removed-from}
use Rattle.wh_path.proofs.Fleet.{no_end-at}
use Rattle.wh_path.proofs.Trips.{run_of}
use Rattle.wh_path.proofs.Waiting.{horizon-most, free-from_own}
use Rattle.wh_field.specs.Distances.{IsRoute, IsLeastRoute, IsNearestRoute}
use Rattle.wh_planner.specs.Duties.{Delivers, ParksAt, IsLawful, HasNoClearWay}
use Rattle.wh_planner.specs.declared.duty.Duty.{Duty}
use Rattle.wh_planner.specs.declared.duty.Duty.TheVariants.{Deliver, Park}
use Rattle.wh_planner.proofs.Routes.{route-of, least_short}
use Rattle.wh_planner.specs.Asked.{IsDuty, Serves, legs}
use Rattle.wh_planner.specs.Laws.{IsUnderWay}
use Rattle.wh_planner.proofs.ClearWays.{rest_off, leads_on, delivers_on}
use Rattle.wh_planners.specs.Patience.{met, IsLeg, cell_before, IsPatient, GoesPatiently, ParksPatiently, IsPatientPath}
use Rattle.wh_planners.proofs.Joined.{Meets, joined, last-joined, at-first, at-second, walk-joined}

-- the part of a walk from one time to another is a route
pub route_between : (g : Floor) (avoid way : List Cell) (a b : ℕ) (from to : Cell) → IsWalk g way → ((k : ℕ) → ¬ Contains avoid (at way k)) → a ≤ b →
    at way a ≡ from → at way b ≡ to → IsRoute g from to avoid (run_of (λ k. at way (a + k)) (b - a))
route_between g avoid way a b from to walk clear le starts arrives =
    let z : a + 0 ≡ a = omega arith in
    let e : a + (b - a) ≡ b = omega arith in
    route-of g avoid from to (λ k. at way (a + k)) (b - a) (record {
      starts = ap (λ i. at way i) z ∙ starts;
      arrives = ap (λ i. at way i) e ∙ arrives;
      ok = λ k h. record { passable = walk.passable (a + k); off = clear (a + k) };
      moves = λ k h. (let s : a + (k + 1) ≡ a + k + 1 = omega arith in rw s (walk.moves (a + k)));
    })

-- the times of a patient path
when-next : (g : Floor) (avoid own : List Cell) (wait : ℕ) (stops : List Cell) (n : ℕ) (path : List Cell) → (p : IsPatient g avoid own wait stops n path) →
    (i : ℕ) → p.when i ≤ p.when (i + 1)
when-next g avoid own wait stops n path p i = elim (cases_lt i n) [
  | inl within ↦ (let e = (p.leg i within).takes in omega arith)
  | inr past ↦ (let a = p.rests i past in let b = p.rests (i + 1) (omega arith) in omega arith)
]

when-by : (g : Floor) (avoid own : List Cell) (wait : ℕ) (stops : List Cell) (n : ℕ) (path : List Cell) → (p : IsPatient g avoid own wait stops n path) →
    (i m : ℕ) → p.when i ≤ p.when (i + m)
when-by g avoid own wait stops n path p i zero = (let e : p.when (i + 0) ≡ p.when i = ap p.when (let z : i + 0 ≡ i = omega arith in z) in omega arith)
when-by g avoid own wait stops n path p i (suc m) =
    let e : p.when (i + suc m) ≡ p.when (i + m + 1) = ap p.when (let z : i + suc m ≡ i + m + 1 = omega arith in z) in
    let a = when-by g avoid own wait stops n path p i m in
    let b = when-next g avoid own wait stops n path p (i + m) in
    omega arith

when-order : (g : Floor) (avoid own : List Cell) (wait : ℕ) (stops : List Cell) (n : ℕ) (path : List Cell) → (p : IsPatient g avoid own wait stops n path) →
    (i j : ℕ) → i ≤ j → p.when i ≤ p.when j
when-order g avoid own wait stops n path p i j le =
    let e : p.when (i + (j - i)) ≡ p.when j = ap p.when (let z : i + (j - i) ≡ j = omega arith in z) in
    let a = when-by g avoid own wait stops n path p i (j - i) in
    omega arith

when-most : (g : Floor) (avoid own : List Cell) (wait : ℕ) (stops : List Cell) (n : ℕ) (path : List Cell) → (p : IsPatient g avoid own wait stops n path) →
    (i : ℕ) → p.when i ≤ last_index path
when-most g avoid own wait stops n path p i =
    let a = when-order g avoid own wait stops n path p i (i + n) (omega arith) in
    let b = p.rests (i + n) (omega arith) in
    omega arith

when-short : (g : Floor) (avoid own : List Cell) (wait : ℕ) (stops : List Cell) (n : ℕ) (path : List Cell) → (p : IsPatient g avoid own wait stops n path) →
    (i : ℕ) → i ≤ n → p.when i ≤ wait + i * passable_cells g
when-short g avoid own wait stops n path p zero le = (let e = p.sets_out in omega arith)
when-short g avoid own wait stops n path p (suc i) le =
    let a = when-short g avoid own wait stops n path p i (omega arith) in
    let leg = p.leg i (omega arith) in
    let e = leg.takes in
    let s = least_short g (cell_before (at own wait) stops i) (cell_at stops i) avoid leg.walk leg.least in
    let d : p.when (suc i) ≡ p.when (i + 1) = ap p.when (let z : suc i ≡ i + 1 = omega arith in z) in
    omega arith

-- at each stop in its time
pub there : (g : Floor) (avoid own : List Cell) (wait : ℕ) (stops : List Cell) (n : ℕ) (path : List Cell) → (p : IsPatient g avoid own wait stops n path) →
    (i : ℕ) → i < n → at path (p.when (i + 1)) ≡ cell_at stops i
there g avoid own wait stops n path p i h =
    let leg = p.leg i h in
    ap (λ k. at path k) leg.takes ∙ leg.along (last_index leg.walk) (omega arith) ∙ leg.least.route.walk.ends

-- it ends where the next leg begins
pub end-patient : (g : Floor) (avoid own : List Cell) (wait : ℕ) (stops : List Cell) (n : ℕ) (path : List Cell) → IsPatient g avoid own wait stops n path →
    end path ≡ cell_before (at own wait) stops n
end-patient g avoid own wait stops zero path p =
    let e : last_index path ≡ wait = sym (p.rests 0 (omega arith)) ∙ p.sets_out in
    p.goes_on (last_index path) (omega arith) ∙ ap (λ k. at own k) e
end-patient g avoid own wait stops (suc n) path p =
    let e : last_index path ≡ p.when (n + 1) = sym (p.rests (suc n) (omega arith)) ∙ ap p.when (let z : suc n ≡ n + 1 = omega arith in z) in
    ap (λ k. at path k) e ∙ there g avoid own wait stops (suc n) path p n (omega arith)

-- a path of n cells that goes the own way
abbrev pub IsGoing : List Cell → ℕ → List Cell → Type 0
IsGoing own n path = (length path ≡ n) × ((k : ℕ) → k < n → at path k ≡ at own k)

pub going_one : (own : List Cell) → IsGoing own 1 (at own 0 ∷ [])
going_one own = (refl, λ k h. at-one (at own 0) k ∙ ap (λ i. at own i) (let z : 0 ≡ k = omega arith in z))

pub going_more : (own : List Cell) (n : ℕ) (path : List Cell) → IsGoing own n path → IsGoing own (n + 1) (path ++ at own n ∷ [])
going_more own n path w =
    let size = length_push path (at own n) in
    let old = w.0 in (
      omega arith,
      λ k h. elim (cases_lt k (length path)) [
        | inl less ↦ at-old path (at own n) k less ∙ w.1 k (omega arith)
        | inr more ↦ at-new path (at own n) k more ∙ ap (λ i. at own i) (let z : n ≡ k = omega arith in z)
      ],
    )

-- before it sets out
pub patient_start : (g : Floor) (avoid own : List Cell) (wait : ℕ) (stops path : List Cell) → IsWalk g own → ¬ Contains avoid (at own wait) →
    IsGoing own (wait + 1) path → IsPatient g avoid own wait stops 0 path
patient_start g avoid own wait stops path own_walk off going =
    let size = going.0 in
    let last : at path (last_index path) ≡ at own wait =
    going.1 (last_index path) (omega arith) ∙ ap (λ i. at own i) (let z : last_index path ≡ wait = omega arith in z) in
    let stays : (k : ℕ) → wait ≤ k → at path k ≡ at own wait = λ k le. at-beyond path k (omega arith) ∙ last in
    record {
      walk = record {
        non_empty = omega arith;
        passable = λ k. elim (cases_lt k wait) [
          | inl l ↦ subst (IsPassable g) (sym (going.1 k (omega arith))) (own_walk.passable k)
          | inr l ↦ subst (IsPassable g) (sym (stays k l)) (own_walk.passable wait)
        ];
        moves = λ k. elim (cases_lt k wait) [
          | inl l ↦ rw (going.1 k (omega arith), going.1 (k + 1) (omega arith)) (own_walk.moves k)
          | inr l ↦ inl (stays k l ∙ sym (stays (k + 1) (omega arith)))
        ];
      };
      clear = λ k le has. off (subst (λ c. Contains avoid c) (stays k le) has);
      goes_on = λ k le. going.1 k (omega arith);
      when = λ i. wait;
      sets_out = refl;
      leg = λ i h. absurd (omega arith);
      rests = λ i h. omega arith;
    }

-- the times with one leg more
later : (ℕ → ℕ) → ℕ → ℕ → ℕ → ℕ
later when n last i = cond (leb i n) (when i) last

later-old : (when : ℕ → ℕ) (n last i : ℕ) → i ≤ n → later when n last i ≡ when i
unfolding later
later-old when n last i le = ap (λ b. cond b (when i) last) (let e : leb i n ≡ true = grind arith in e)

later-new : (when : ℕ → ℕ) (n last i : ℕ) → n < i → later when n last i ≡ last
unfolding later
later-new when n last i lt = ap (λ b. cond b (when i) last) (let e : leb i n ≡ false = grind arith in e)

meets-leg : (g : Floor) (avoid own : List Cell) (wait : ℕ) (stops : List Cell) (n : ℕ) (path : List Cell) (to : Cell) (walk : List Cell) →
    IsPatient g avoid own wait stops n path → IsRoute g (end path) to avoid walk → Meets path walk
meets-leg g avoid own wait stops n path to walk p route = record {
  first_some = p.walk.non_empty;
  second_some = (let a = route.walk.walk.non_empty in omega arith);
  meets = sym route.walk.starts;
}

-- a leg of the path stays a leg as the path goes on
leg-kept : (g : Floor) (avoid : List Cell) (from to : Cell) (start finish start' finish' : ℕ) (path walk : List Cell) → Meets path walk → finish ≤ last_index path →
    start' ≡ start → finish' ≡ finish → IsLeg g avoid from to start finish path → IsLeg g avoid from to start' finish' (joined path walk)
leg-kept g avoid from to start finish start' finish' path walk m most a b leg = record {
  walk = leg.walk;
  least = leg.least;
  along = λ k le.
      let t = leg.takes in
      let e : start' + k ≡ start + k = omega arith in
      ap (λ i. at (joined path walk) i) e ∙ at-first path walk (start + k) m (omega arith) ∙ leg.along k le;
  takes = (let t = leg.takes in omega arith);
}

leg-new : (g : Floor) (avoid : List Cell) (from to : Cell) (start finish : ℕ) (path walk : List Cell) → Meets path walk → IsLeastRoute g from to avoid walk →
    start ≡ last_index path → finish ≡ last_index (joined path walk) → IsLeg g avoid from to start finish (joined path walk)
leg-new g avoid from to start finish path walk m least a b = record {
  walk = walk;
  least = least;
  along = λ k le. (let e : start + k ≡ last_index path + k = omega arith in ap (λ i. at (joined path walk) i) e ∙ at-second path walk k m);
  takes = (let size = last-joined path walk m in omega arith);
}

-- it goes to one stop more
pub patient_step : (g : Floor) (avoid own : List Cell) (wait : ℕ) (stops : List Cell) (n : ℕ) (path walk : List Cell) →
    IsPatient g avoid own wait stops n path → IsLeastRoute g (end path) (cell_at stops n) avoid walk → IsPatient g avoid own wait stops (n + 1) (joined path walk)
patient_step g avoid own wait stops n path walk p least =
    let m = meets-leg g avoid own wait stops n path (cell_at stops n) walk p least.route in
    let last = last_index (joined path walk) in
    let size = last-joined path walk m in
    let when' = later p.when n last in
    let out = p.sets_out in
    let first = when-most g avoid own wait stops n path p 0 in
    let from : IsLeastRoute g (cell_before (at own wait) stops n) (cell_at stops n) avoid walk =
    subst (λ c. IsLeastRoute g c (cell_at stops n) avoid walk) (end-patient g avoid own wait stops n path p) least in
    record {
      walk = walk-joined g path walk m p.walk least.route.walk.walk;
      clear = λ k late. elim (cases_lt (last_index path) k) [
        | inr early ↦ subst (λ c. ¬ Contains avoid c) (sym (at-first path walk k m early)) (p.clear k late)
        | inl past ↦
            let e : last_index path + (k - last_index path) ≡ k = omega arith in
            subst (λ c. ¬ Contains avoid c) (sym (at-second path walk (k - last_index path) m) ∙ ap (λ i. at (joined path walk) i) e) (least.route.avoids (k - last_index path))
      ];
      goes_on = λ k le. at-first path walk k m (omega arith) ∙ p.goes_on k le;
      when = when';
      sets_out = later-old p.when n last 0 (omega arith) ∙ out;
      leg = λ i h. elim (cases_lt i n) [
        | inl old ↦ leg-kept g avoid (cell_before (at own wait) stops i) (cell_at stops i) (p.when i) (p.when (i + 1)) (when' i) (when' (i + 1)) path walk m
            (when-most g avoid own wait stops n path p (i + 1)) (later-old p.when n last i (omega arith)) (later-old p.when n last (i + 1) (omega arith)) (p.leg i old)
        | inr not_old ↦
            let e : n ≡ i = omega arith in
            subst (λ (j : ℕ). IsLeg g avoid (cell_before (at own wait) stops j) (cell_at stops j) (when' j) (when' (j + 1)) (joined path walk)) e
            (leg-new g avoid (cell_before (at own wait) stops n) (cell_at stops n) (when' n) (when' (n + 1)) path walk m from
            (later-old p.when n last n (omega arith) ∙ p.rests n (omega arith)) (later-new p.when n last (n + 1) (omega arith)))
      ];
      rests = λ i h. later-new p.when n last i (omega arith);
    }

-- a patient path for one stop, by a nearest route
pub patient_one : (g : Floor) (avoid own : List Cell) (wait : ℕ) (to : Cell) (path walk : List Cell) → IsPatient g avoid own wait (to ∷ []) 0 path →
    IsLeastRoute g (at own wait) to avoid walk → IsPatient g avoid own wait (to ∷ []) 1 (joined path walk)
patient_one g avoid own wait to path walk p least =
    patient_step g avoid own wait (to ∷ []) 0 path walk p
    (subst (λ c. IsLeastRoute g c to avoid walk) (sym (end-patient g avoid own wait (to ∷ []) 0 path p)) least)

-- no way through the stops where no route leads to the next one
pub no_way : (g : Floor) (avoid : List Cell) (here : Cell) (stops : List Cell) (n : ℕ) → n < length stops →
    ((q : List Cell) → IsRoute g (cell_before here stops n) (cell_at stops n) avoid q → ⊥) →
    (way : List Cell) → IsWalk g way → at way 0 ≡ here → ((k : ℕ) → ¬ Contains avoid (at way k)) → ¬ Delivers stops way
no_way g avoid here stops zero lt none way walk starts clear d =
    let v = d.visits in
    none _ (route_between g avoid way 0 (v.when 0) here (cell_at stops 0) walk clear (omega arith) starts (v.there 0 lt))
no_way g avoid here stops (suc n) lt none way walk starts clear d =
    let v = d.visits in
    none _ (route_between g avoid way (v.when n) (v.when (suc n)) (cell_at stops n) (cell_at stops (suc n)) walk clear
    (v.in_order n (suc n) (omega arith)) (v.there n (omega arith)) (v.there (suc n) lt))

-- it is free of each other
patient-free_one : (nofollow : Bool) (own path q : List Cell) (h : ℕ) → IsFree nofollow own q → last_index q ≤ h →
    ((k : ℕ) → k ≤ h → at path k ≡ at own k) → ((k : ℕ) → h ≤ k → at path k ≢ end q) → IsFree nofollow path q
patient-free_one nofollow own path q h free rests goes_on apart =
    free-from_own nofollow path q own free (λ k. elim (cases_lt k h) [
      | inl l ↦ inl (goes_on k (omega arith), goes_on (k + 1) (omega arith))
      | inr l ↦ inr (at-beyond q k (omega arith), at-beyond q (k + 1) (omega arith), apart k l, apart (k + 1) (omega arith))
    ])

patient-free : (g : Floor) (nofollow : Bool) (paths : List (List Cell)) (agent : ℕ) (stops path : List Cell) → AllFree nofollow paths → agent < length paths →
    GoesPatiently g paths agent stops path → All (λ other. IsFree nofollow path other) (others paths agent)
patient-free g nofollow paths agent stops path free known p =
    let h = horizon (others paths agent) in
    let own = path_of paths agent in
    all_removed-from (λ other. IsFree nofollow path other) paths agent (λ j d j_in ne.
    let few : last_index (path_of paths j) ≤ h = all_removed-at (λ q. last_index q ≤ h) paths agent j [] (horizon-most (others paths agent)) j_in ne in
    subst (λ q. IsFree nofollow path q) (get_or_default paths j [] d j_in)
    (patient-free_one nofollow own path (path_of paths j) h (free.pair agent j known j_in (λ e. ne (sym e))) few p.goes_on
    (λ k late e. no_end-at paths agent (at path k) (p.clear k late) j j_in ne (sym e))))

pub patient_lawful : (g : Floor) (nofollow : Bool) (paths : List (List Cell)) (agent legs : ℕ) (Serves : List Cell → Type 0) (stops path : List Cell) →
    AllFree nofollow paths → agent < length paths → length stops ≤ legs →
    GoesPatiently g paths agent stops path → Serves path → IsLawful g nofollow paths agent legs Serves path
patient_lawful g nofollow paths agent legs Serves stops path free known few p serves = record {
  walk = p.walk;
  starts_here = p.goes_on 0 (omega arith);
  free = patient-free g nofollow paths agent stops path free known p;
  bounded =
      let a = when-short g (ends (others paths agent)) (path_of paths agent) (horizon (others paths agent)) stops (length stops) path p (length stops) (omega arith) in
      let e = p.rests (length stops) (omega arith) in
      let m = mul-le (length stops) (passable_cells g) legs (passable_cells g) few (omega arith) in
      omega arith;
  serves = serves;
}

-- it goes through the stops, and ends at the last
last-before : (here : Cell) (stops : List Cell) (n : ℕ) → n ≡ length stops → 1 ≤ n → cell_before here stops n ≡ cell_at stops (length stops - 1)
last-before here stops zero e h = absurd (omega arith)
last-before here stops (suc n) e h = ap (λ i. cell_at stops i) (let d : n ≡ length stops - 1 = omega arith in d)

pub patient_delivers : (g : Floor) (paths : List (List Cell)) (agent : ℕ) (stops path : List Cell) → 1 ≤ length stops → GoesPatiently g paths agent stops path → Delivers stops path
patient_delivers g paths agent stops path some p =
    let avoid = ends (others paths agent) in
    let own = path_of paths agent in
    let h = horizon (others paths agent) in
    record {
      visits = record {
        when = λ i. p.when (i + 1);
        in_order = λ i j le. when-order g avoid own h stops (length stops) path p (i + 1) (j + 1) (omega arith);
        there = λ i lt. there g avoid own h stops (length stops) path p i lt;
      };
      ends_there = end-patient g avoid own h stops (length stops) path p ∙ last-before (met paths agent) stops (length stops) refl some;
    }

-- it parks at the cell
pub patient_parks : (g : Floor) (paths : List (List Cell)) (agent i : ℕ) (allowed path : List Cell) → i < length allowed →
    GoesPatiently g paths agent (cell_at allowed i ∷ []) path → ParksAt (Contains allowed) path
patient_parks g paths agent i allowed path within p =
    let avoid = ends (others paths agent) in
    let e : end path ≡ cell_at allowed i = end-patient g avoid (path_of paths agent) (horizon (others paths agent)) (cell_at allowed i ∷ []) 1 path p in
    (i, within, get_or_default allowed i (end path) (record { x = 0; y = 0 }) within ∙ sym e)

-- no way through the stops where none leads on from where the own path is when the others rest
pub no_delivery_on : (g : Floor) (nofollow : Bool) (paths : List (List Cell)) (agent : ℕ) (stops : List Cell) → IsUnderWay g nofollow paths agent →
    ((way : List Cell) → IsWalk g way → at way 0 ≡ met paths agent → ((k : ℕ) → ¬ Contains (ends (others paths agent)) (at way k)) → ¬ Delivers stops way) →
    HasNoClearWay g paths agent (Delivers stops)
no_delivery_on g nofollow paths agent stops under none way clear =
    let on = leads_on g nofollow paths agent (Delivers stops) way under clear in
    none on.0 on.1.is_walk on.1.starts on.1.off (delivers_on g paths agent stops way on.0 on.1 clear.serves)

-- no way to park where no route leads to any of the cells
pub no_parking : (g : Floor) (nofollow : Bool) (paths : List (List Cell)) (agent : ℕ) (allowed : List Cell) → IsUnderWay g nofollow paths agent →
    ((j : ℕ) (q : List Cell) → j < length allowed → IsRoute g (met paths agent) (cell_at allowed j) (ends (others paths agent)) q → ⊥) →
    HasNoClearWay g paths agent (ParksAt (Contains allowed))
no_parking g nofollow paths agent allowed under none way clear =
    let on = leads_on g nofollow paths agent (ParksAt (Contains allowed)) way under clear in
    let has = clear.serves in
    let avoid = ends (others paths agent) in
    let e : end on.0 ≡ cell_at allowed has.0 = on.1.ends_there ∙ sym has.2 ∙ get_or_default allowed has.0 (end way) (record { x = 0; y = 0 }) has.1 in
    none has.0 _ has.1 (route_between g avoid on.0 0 (last_index on.0) (met paths agent) (cell_at allowed has.0) on.1.is_walk on.1.off (omega arith) on.1.starts e)

-- where the own path is when the others rest no other's path ends
pub met_off : (g : Floor) (nofollow : Bool) (paths : List (List Cell)) (agent : ℕ) → IsUnderWay g nofollow paths agent → ¬ Contains (ends (others paths agent)) (met paths agent)
met_off g nofollow paths agent under = (rest_off g nofollow paths agent (horizon (others paths agent)) under (omega arith)).off

-- it goes on, and to the nearest
pub patient_park : (g : Floor) (nofollow : Bool) (paths : List (List Cell)) (agent : ℕ) (allowed : List Cell) (index : ℕ) (walk path : List Cell) → IsUnderWay g nofollow paths agent →
    IsNearestRoute g (met paths agent) allowed (ends (others paths agent)) index walk →
    IsGoing (path_of paths agent) (horizon (others paths agent) + 1) path → ParksPatiently g paths agent allowed (joined path walk)
patient_park g nofollow paths agent allowed index walk path under near going =
    let avoid = ends (others paths agent) in
    let own = path_of paths agent in
    let h = horizon (others paths agent) in
    let to = cell_at allowed index in
    let start = patient_start g avoid own h (to ∷ []) path under.walk (met_off g nofollow paths agent under) going in
    record { index = index; walk = walk; nearest = near; goes = patient_one g avoid own h to path walk start near.route }

-- what the planner answers does what the duty asks
pub patient_serves : (g : Floor) (paths : List (List Cell)) (agent : ℕ) (duty : Duty) (path : List Cell) → IsDuty duty →
    IsPatientPath g paths agent duty path → Serves duty path
patient_serves g paths agent (Deliver stops) path asked p = (let a = asked.0 in patient_delivers g paths agent stops.now path (omega arith) p)
patient_serves g paths agent (Park allowed) path asked p = patient_parks g paths agent p.index allowed.now path p.nearest.within p.goes

pub path_lawful : (g : Floor) (nofollow : Bool) (paths : List (List Cell)) (agent : ℕ) (duty : Duty) (path : List Cell) →
    AllFree nofollow paths → agent < length paths → IsDuty duty → IsPatientPath g paths agent duty path →
    IsLawful g nofollow paths agent (legs duty) (Serves duty) path
path_lawful g nofollow paths agent (Deliver stops) path free known asked p =
    patient_lawful g nofollow paths agent (length stops.now) (Delivers stops.now) stops.now path free known (omega arith) p
    (patient_serves g paths agent (Deliver stops) path asked p)
path_lawful g nofollow paths agent (Park allowed) path free known asked p =
    patient_lawful g nofollow paths agent 2 (ParksAt (Contains allowed.now)) (cell_at allowed.now p.index ∷ []) path free known (omega arith) p.goes
    (patient_serves g paths agent (Park allowed) path asked p)
