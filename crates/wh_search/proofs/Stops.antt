-- a delivery is a tour with all stops but the last one on the way, and the fields that are there give its estimate
use Rattle.std.proofs.Common.{◌≡◌, ℕ, ◌+◌, ◌-◌, ◌*◌, ◌<◌, ◌≤◌, ◌^◌, ◌⊎◌, inl, inr, ◌∙◌, List, [], ◌∷◌, length, take, drop, get_or, Option, Some, None, IsSomeAnd, MatchOption, IfSome, Contains, Result, Ok, Err, IfOk, min, refl, sym, ap, subst, suc, zero, length-take, length-drop, arith}
use Rattle.std.specs.Borrow.{Bor}
use Rattle.std.proofs.lemmas.Bool.{cases_lt}
use Rattle.std.proofs.lemmas.List.{take_all}
use Rattle.std.proofs.lemmas.List.Elements.{All-nil, All-contains}
use Rattle.wh_grid.specs.declared.cell.Cell.{Cell}
use Rattle.wh_grid.specs.Grids.{Floor, IsPassable, IsMove, passable_cells}
use Rattle.wh_resv.specs.Others.{Others, MayRest}
use Rattle.wh_path.specs.Paths.{at, end, last_index, cell_at}
use Rattle.wh_path.proofs.AtLemmas.{at-beyond, at-rests}
use Rattle.wh_field.proofs.Tables.{Contains-first, Contains-cases}
use Rattle.wh_search.specs.Deliveries.{IsDelivery, IsLeast}
use Rattle.wh_field.specs.Fields.{Source}
use Rattle.wh_field.specs.Distances.{distance}
use Rattle.wh_field.proofs.DistanceLaws.{distance_start, distance_falls}
use Rattle.wh_path.proofs.WalkLemmas.{move_back}
use Rattle.wh_search.specs.Fields.{far, IsFieldAt, AreFieldsOf}
use Rattle.wh_search.specs.Expansions.{MayEnd}
use Rattle.wh_search.specs.Guides.{by_field, stops_estimate, IsOnward}
use Rattle.wh_search.specs.States.{IsEstimate}
use Rattle.wh_search.specs.Tours.{IsTour, IsLeastTour}

pub ok_weaker : {X E : Type 0} (r : Result X E) (Q R : X → Type 0) → ((x : X) → Q x → R x) → IfOk r Q → IfOk r R
ok_weaker (Ok x) Q R f h = f x h
ok_weaker (Err e) Q R f h = h

pub some_weaker : {X : Type 0} (o : Option X) (Q R : X → Type 0) → ((x : X) → Q x → R x) → IfSome o Q → IfSome o R
some_weaker (Some x) Q R f h = f x h
some_weaker None Q R f h = h

far_most : (o : Option ℕ) (k : ℕ) → far o k ≤ 2 ^ 64 - 1
far_most None k = omega arith
far_most (Some n) k = omega arith

far_near : (k n : ℕ) (a : Option ℕ) → IsSomeAnd a (λ m. m ≤ n + 1) → far a k ≤ far (Some n) k + 1
far_near k n None h = absurd h
far_near k n (Some m) h = omega arith

-- a distance falls by at most 1 in one step
far_falls : (g : Floor) (s r c : Cell) (k : ℕ) (o : Option ℕ) → distance g s c ≡ o → IsPassable g r → IsMove r c → far (distance g s r) k ≤ far o k + 1
far_falls g s r c k None e p m = let h = far_most (distance g s r) k in omega arith
far_falls g s r c k (Some n) e p m = far_near k n (distance g s r) (distance_falls g s c r n p (move_back r c m) e)

field_falls : (g : Floor) (goal r c : Cell) (k : ℕ) (f : Option (Bor Source)) → IsFieldAt g f goal → IsPassable g r → IsPassable g c → IsMove r c → by_field f k r ≤ by_field f k c + 1
field_falls g goal r c k None h p q m = omega arith
field_falls g goal r c k (Some f) h p q m =
    let F : Source → Type 0 = λ s. far (distance s.grid s.cell r) k ≤ far (distance s.grid s.cell c) k + 1 in
    subst F (sym h) (far_falls g goal r c k (distance g goal c) refl p m)

-- at the stop itself it is no more than what is further on
field_there : (g : Floor) (goal : Cell) (k : ℕ) (f : Option (Bor Source)) → IsFieldAt g f goal → IsPassable g goal → by_field f k goal ≤ k
field_there g goal k None h p = omega arith
field_there g goal k (Some f) h p =
    let F : Source → Type 0 = λ s. far (distance s.grid s.cell goal) k ≤ k in
    let e : far (distance g goal goal) k ≡ far (Some 0) k = ap (λ x. far x k) (distance_start g goal p) in
    subst F (sym h) (omega arith)

-- the stops on the way are the first ones
pub via_stop : (stops : List Cell) (n i : ℕ) → i < n → cell_at (take n stops) i ≡ cell_at stops i
via_stop [] zero i h = absurd (omega arith)
via_stop [] (suc n) i h = refl
via_stop (s ∷ stops) zero i h = absurd (omega arith)
via_stop (s ∷ stops) (suc n) zero h = refl
via_stop (s ∷ stops) (suc n) (suc i) h = via_stop stops n i (omega arith)

pub via_size : (stops : List Cell) → length (take (length stops - 1) stops) ≡ length stops - 1
via_size stops = omega (arith, length-take (length stops - 1) stops)

-- the last stop is the one end
pub last_only : (stops : List Cell) (n : ℕ) → n + 1 ≡ length stops → drop n stops ≡ cell_at stops n ∷ []
last_only [] n h = absurd (omega arith)
last_only (s ∷ []) zero h = refl
last_only (s ∷ t ∷ stops) zero h = absurd (omega arith)
last_only (s ∷ stops) (suc n) h = last_only stops n (omega arith)

-- the part of the stops from the last one on
pub last_part : (stops : List Cell) → take (length stops - (length stops - 1)) (drop (length stops - 1) stops) ≡ drop (length stops - 1) stops
last_part stops = take_all (length stops - (length stops - 1)) (drop (length stops - 1) stops) (omega (arith, length-drop (length stops - 1) stops))

pub one_only : (x y : Cell) → Contains (x ∷ []) y → x ≡ y
one_only x y h = elim (Contains-cases y x [] h) [ inl e ↦ e | inr n ↦ absurd (All-contains (λ _. ⊥) [] y (All-nil (λ _. ⊥)) n) ]

pub delivery_tour : (g : Floor) (others : Others) (loc : Cell) (stops via ends p : List Cell) → 2 ≤ length stops → via ≡ take (length stops - 1) stops → ends ≡ drop (length stops - 1) stops → IsDelivery g others loc stops p → IsTour g others loc via ends p
delivery_tour g others loc stops via ends p many v e d =
    let n = length stops - 1 in
    let size : length via ≡ n = ap length v ∙ via_size stops in
    record {
      starts = d.starts;
      walk = d.walk;
      free = d.free;
      visits = record {
        when = d.visits.when;
        in_order = d.visits.in_order;
        there = λ i h. d.visits.there i (omega arith) ∙ sym (ap (λ (w : List Cell). cell_at w i) v ∙ via_stop stops n i (omega arith));
      };
      delivers = subst (λ (w : List Cell). Contains w (end p)) (sym (e ∙ last_only stops n (omega arith))) (subst (Contains (cell_at stops n ∷ [])) (sym d.delivers) (Contains-first (cell_at stops n) []));
    }

-- when each stop is visited, and the last one at the end
last_when : (n last i : ℕ) → (i < n) ⊎ (n ≤ i) → ℕ → ℕ
last_when n last i (inl b) k = min k last
last_when n last i (inr b) k = last

when_low : (n last i : ℕ) (x : (i < n) ⊎ (n ≤ i)) (k : ℕ) → i < n → last_when n last i x k ≡ min k last
unfolding last_when
when_low n last i (inl b) k h = refl
when_low n last i (inr b) k h = absurd (omega arith)

when_high : (n last i : ℕ) (x : (i < n) ⊎ (n ≤ i)) (k : ℕ) → n ≤ i → last_when n last i x k ≡ last
unfolding last_when
when_high n last i (inl b) k h = absurd (omega arith)
when_high n last i (inr b) k h = refl

pub tour_delivery : (g : Floor) (others : Others) (loc : Cell) (stops via ends p : List Cell) → 2 ≤ length stops → via ≡ take (length stops - 1) stops → ends ≡ drop (length stops - 1) stops → IsTour g others loc via ends p → IsDelivery g others loc stops p
tour_delivery g others loc stops via ends p many v e t =
    let n = length stops - 1 in
    let last = last_index p in
    let size : length via ≡ n = ap length v ∙ via_size stops in
    let delivers : end p ≡ cell_at stops n = sym (one_only (cell_at stops n) (end p) (subst (λ (w : List Cell). Contains w (end p)) (e ∙ last_only stops n (omega arith)) t.delivers)) in
    let when : ℕ → ℕ = λ i. last_when n last i (cases_lt i n) (t.visits.when i) in
    record {
      starts = t.starts;
      walk = t.walk;
      free = t.free;
      visits = record {
        when = when;
        in_order = λ i j b. elim (cases_lt j n) [
          | inl y ↦ omega (arith, when_low n last i (cases_lt i n) (t.visits.when i) (omega arith), when_low n last j (cases_lt j n) (t.visits.when j) y, t.visits.in_order i j b)
          | inr y ↦ elim (cases_lt i n) [
            | inl x ↦ omega (arith, when_low n last i (cases_lt i n) (t.visits.when i) x, when_high n last j (cases_lt j n) (t.visits.when j) y)
            | inr x ↦ omega (arith, when_high n last i (cases_lt i n) (t.visits.when i) x, when_high n last j (cases_lt j n) (t.visits.when j) y)
          ]
        ];
        there = λ i h. elim (cases_lt i n) [
          | inl x ↦ ap (at p) (when_low n last i (cases_lt i n) (t.visits.when i) x) ∙ by_end p (t.visits.when i) ∙ t.visits.there i (omega arith) ∙ ap (λ (w : List Cell). cell_at w i) v ∙ via_stop stops n i x
          | inr x ↦ ap (at p) (when_high n last i (cases_lt i n) (t.visits.when i) x) ∙ delivers ∙ ap (cell_at stops) (let z : n ≡ i = omega arith in z)
        ];
      };
      delivers = delivers;
    }
  where
    by_end : (p : List Cell) (k : ℕ) → at p (min k (last_index p)) ≡ at p k
    by_end p k =
        elim (cases_lt k (last_index p)) [
          | inl x ↦ ap (at p) (let e : min k (last_index p) ≡ k = omega arith in e)
          | inr x ↦ at-rests p (min k (last_index p)) k (omega arith) (omega arith)
        ]

pub least_delivery : (g : Floor) (others : Others) (loc : Cell) (stops via ends p : List Cell) → 2 ≤ length stops → via ≡ take (length stops - 1) stops → ends ≡ drop (length stops - 1) stops → IsLeastTour g others loc via ends p → IsLeast g others loc stops p
least_delivery g others loc stops via ends p many v e t =
    let size : length via + 1 ≡ length stops = (let z = ap length v ∙ via_size stops in omega arith) in
    let bound = ap (λ n. n * passable_cells g) size in
    record {
      lawful = record { is_delivery = tour_delivery g others loc stops via ends p many v e t.is_tour; bounded = (let b = t.bounded in omega arith) };
      least = λ q d. t.least q (delivery_tour g others loc stops via ends q many v e d);
    }

-- what was found, in the words of a delivery
pub path_weaker : (g : Floor) (others : Others) (loc : Cell) (stops via ends : List Cell) (o : Option (List Cell)) → 2 ≤ length stops → via ≡ take (length stops - 1) stops → ends ≡ drop (length stops - 1) stops
    → MatchOption o ((q : List Cell) → IsTour g others loc via ends q → ⊥) (λ p. IsLeastTour g others loc via ends p)
    → MatchOption o ((q : List Cell) → IsDelivery g others loc stops q → ⊥) (λ p. IsLeast g others loc stops p)
path_weaker g others loc stops via ends None many v e h = λ q d. h q (delivery_tour g others loc stops via ends q many v e d)
path_weaker g others loc stops via ends (Some p) many v e h = least_delivery g others loc stops via ends p many v e h

-- a delivery rests at the last stop
pub delivery_rests : (g : Floor) (others : Others) (loc : Cell) (stops p : List Cell) → IsDelivery g others loc stops p → MayRest others (cell_at stops (length stops - 1)) (last_index p)
delivery_rests g others loc stops p d = λ i q b. record { away = λ j c e. (d.free i q b).apart j (at-beyond p j c ∙ d.delivers ∙ sym e) }

-- and comes there when nobody has just left it, where nobody may follow
pub delivery_ends : (g : Floor) (others : Others) (loc : Cell) (stops p : List Cell) → IsDelivery g others loc stops p → MayEnd others (cell_at stops (length stops - 1)) (last_index p)
delivery_ends g others loc stops p d =
    let c = cell_at stops (length stops - 1) in
    let n = last_index p in
    record {
      rests = delivery_rests g others loc stops p d;
      follows_none = λ rule i q b. record {
        away = λ j since there. elim (cases_lt j n) [
          | inl early ↦ (d.free i q b).no_follow rule j (inl (ap (at p) (let e : j + 1 ≡ n = omega arith in e) ∙ d.delivers ∙ sym there))
          | inr late ↦ (d.free i q b).apart j (at-beyond p j late ∙ d.delivers ∙ sym there)
        ];
      };
    }

pub stops_estimates : (g : Floor) (stops via ends : List Cell) (fields : List (Option (Bor Source))) (onward : List ℕ) → 2 ≤ length stops → via ≡ take (length stops - 1) stops → ends ≡ drop (length stops - 1) stops
    → AreFieldsOf g stops fields → IsOnward fields stops onward → IsEstimate g via ends (stops_estimate fields onward)
stops_estimates g stops via ends fields onward many v e f o =
    let n = length stops - 1 in
    let size : length via ≡ n = ap length v ∙ via_size stops in
    let last : cell_at stops n ≡ cell_at stops n = refl in
    record {
      at_end = λ c b inside.
          let is : cell_at stops n ≡ c = one_only (cell_at stops n) c (subst (λ (w : List Cell). Contains w c) (e ∙ last_only stops n (omega arith)) b) in
          let goes : cell_at stops (length via) ≡ c = ap (cell_at stops) size ∙ is in
          let zero_on = o.last (length via) (omega arith) in
          let there = field_there g (cell_at stops (length via)) (get_or onward (length via) 0) (get_or fields (length via) None) (f.each (length via) (omega arith)) (subst (IsPassable g) (sym goes) inside) in
          let E : Cell → Type 0 = λ d. stops_estimate fields onward (length via) d ≡ 0 in
          subst E goes (omega arith);
      falls = λ l r c few p q m. field_falls g (cell_at stops l) r c (get_or onward l 0) (get_or fields l None) (f.each l (omega arith)) p q m;
      visits = λ l b inside.
          let here : cell_at via l ≡ cell_at stops l = ap (λ (w : List Cell). cell_at w l) v ∙ via_stop stops n l (omega arith) in
          let there = field_there g (cell_at stops l) (get_or onward l 0) (get_or fields l None) (f.each l (omega arith)) (subst (IsPassable g) here inside) in
          let on = o.before l (omega arith) in
          let V : Cell → Type 0 = λ d. stops_estimate fields onward l d ≤ stops_estimate fields onward (l + 1) d in
          subst V (sym here) (omega arith);
    }
