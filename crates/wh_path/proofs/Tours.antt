-- trips from stop to stop
use Rattle.std.proofs.Common.{◌≡◌, ℕ, ◌+◌, ◌-◌, ◌*◌, ◌<◌, ◌≤◌, ◌∙◌, List, [], ◌∷◌, length, sym, subst, refl, ap, arith}
use Prim.Native.Nat.{zero, suc}
use Rattle.wh_grid.specs.declared.cell.Cell.{Cell}
use Rattle.wh_grid.specs.Grids.{Floor, IsPassable, IsMove, passable_cells}
use Rattle.wh_path.specs.Paths.{cell_at}
use Rattle.wh_path.proofs.Trips.{IsTrip, then_go, go-first, go-second, trip-join, trip-stay, trip-part, ShortTrip, trip-short}

-- the last of the stops, or where it begins if there are none
abbrev pub last_of : Cell → List Cell → Cell
last_of from [] = from
last_of from (stop ∷ stops) = last_of stop stops

pub last_of-is : (from stop : Cell) (stops : List Cell) → last_of from (stop ∷ stops) ≡ cell_at (stop ∷ stops) (length (stop ∷ stops) - 1)
last_of-is from stop [] = refl
last_of-is from stop (next ∷ stops) =
    let e : length (stop ∷ next ∷ stops) - 1 ≡ suc (length (next ∷ stops) - 1) = omega arith in
    last_of-is stop next stops ∙ sym (ap (λ k. cell_at (stop ∷ next ∷ stops) k) e)

-- a short trip to each stop from the one before
abbrev pub Legs : Floor → (Cell → Type 0) → Cell → List Cell → Type 0
Legs g Ok from [] = Ok from
Legs g Ok from (stop ∷ stops) = ShortTrip g Ok from stop × Legs g Ok stop stops

-- a trip through the stops in their order, within a bound
pub record Tour (g : Floor) (Ok : Cell → Type 0) (from : Cell) (stops : List Cell) : Type 0 where
  pub f : ℕ → Cell
  pub n : ℕ
  pub trip : IsTrip Ok f n from (last_of from stops)
  pub when : ℕ → ℕ
  pub in_order : (i j : ℕ) → i ≤ j → when i ≤ when j
  pub in_time : (i : ℕ) → when i ≤ n
  pub there : (i : ℕ) → i < length stops → f (when i) ≡ cell_at stops i
  pub short : n ≤ length stops * passable_cells g

abbrev then_when : ℕ → (ℕ → ℕ) → ℕ → ℕ
then_when n when zero = n
then_when n when (suc i) = n + when i

then_when-order : (n : ℕ) (when : ℕ → ℕ) → ((i j : ℕ) → i ≤ j → when i ≤ when j) → (i j : ℕ) → i ≤ j → then_when n when i ≤ then_when n when j
then_when-order n when order zero zero le = omega arith
then_when-order n when order zero (suc j) le = omega arith
then_when-order n when order (suc i) zero le = absurd (omega arith)
then_when-order n when order (suc i) (suc j) le = (let h = order i j (omega arith) in omega arith)

then_when-time : (n m : ℕ) (when : ℕ → ℕ) → ((i : ℕ) → when i ≤ m) → (i : ℕ) → then_when n when i ≤ n + m
then_when-time n m when time zero = omega arith
then_when-time n m when time (suc i) = (let h = time i in omega arith)

then_when-there : (f h : ℕ → Cell) (n : ℕ) (stop : Cell) (stops : List Cell) (when : ℕ → ℕ) → f n ≡ stop → f n ≡ h 0 →
    ((i : ℕ) → i < length stops → h (when i) ≡ cell_at stops i) →
    (i : ℕ) → i < length (stop ∷ stops) → then_go f n h (then_when n when i) ≡ cell_at (stop ∷ stops) i
then_when-there f h n stop stops when arrives meets there zero lt = go-first f h n n (omega arith) ∙ arrives
then_when-there f h n stop stops when arrives meets there (suc i) lt =
    let e : n + when i - n ≡ when i = omega arith in
    go-second f h n (n + when i) (omega arith) meets ∙ ap h e ∙ there i (omega arith)

pub tour-legs : (g : Floor) (Ok : Cell → Type 0) (from : Cell) (stops : List Cell) → Legs g Ok from stops → Tour g Ok from stops
tour-legs g Ok from [] legs = record {
  f = λ k. from;
  n = 0;
  trip = trip-stay Ok from legs;
  when = λ i. 0;
  in_order = λ i j le. omega arith;
  in_time = λ i. omega arith;
  there = λ i h. absurd (omega arith);
  short = omega arith;
}
tour-legs g Ok from (stop ∷ stops) legs =
    let leg = legs.0 in
    let rest = tour-legs g Ok stop stops legs.1 in
    record {
      f = then_go leg.f leg.n rest.f;
      n = leg.n + rest.n;
      trip = trip-join Ok leg.f rest.f leg.n rest.n from stop (last_of stop stops) leg.trip rest.trip;
      when = then_when leg.n rest.when;
      in_order = then_when-order leg.n rest.when rest.in_order;
      in_time = then_when-time leg.n rest.n rest.when rest.in_time;
      there = then_when-there leg.f rest.f leg.n stop stops rest.when leg.trip.arrives (leg.trip.arrives ∙ sym rest.trip.starts) rest.there;
      short = (let a = leg.short in let b = rest.short in omega arith);
    }

-- the legs of a path that goes through the stops, each cut short
pub legs-along : (g : Floor) (Ok : Cell → Type 0) → ((c : Cell) → Ok c → IsPassable g c) → (f : ℕ → Cell) → ((k : ℕ) → Ok (f k)) →
    ((k : ℕ) → IsMove (f k) (f (k + 1))) → (from : Cell) (stops : List Cell) (t : ℕ) → f t ≡ from → (when : ℕ → ℕ) → t ≤ when 0 →
    ((i j : ℕ) → i ≤ j → when i ≤ when j) → ((i : ℕ) → i < length stops → f (when i) ≡ cell_at stops i) → Legs g Ok from stops
legs-along g Ok passable f ok moves from [] t starts when later order there = subst Ok starts (ok t)
legs-along g Ok passable f ok moves from (stop ∷ stops) t starts when later order there =
    let m = when 0 - t in
    let e : t + m ≡ when 0 = omega arith in
    let arrives : f (t + m) ≡ stop = ap f e ∙ there 0 (omega arith) in
    let part = trip-part Ok f t m ok moves in
    let leg : IsTrip Ok (λ k. f (t + k)) m from stop =
    subst (λ d. IsTrip Ok (λ k. f (t + k)) m from d) arrives (subst (λ c. IsTrip Ok (λ k. f (t + k)) m c (f (t + m))) starts part) in (
      trip-short g Ok passable m (λ k. f (t + k)) from stop leg,
      legs-along g Ok passable f ok moves stop stops (when 0) (there 0 (omega arith)) (λ i. when (suc i)) (order 0 1 (omega arith))
          (λ i j le. order (suc i) (suc j) (omega arith)) (λ i h. there (suc i) (omega arith)),
    )
