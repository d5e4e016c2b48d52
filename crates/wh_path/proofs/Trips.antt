-- walks as functions of time: joined, cut short, and written out as paths
use Rattle.std.proofs.Common.{◌≡◌, ◌≢◌, ℕ, ◌+◌, ◌-◌, ◌<◌, ◌≤◌, ◌∙◌, ◌⊎◌, inl, inr, List, [], ◌∷◌, true, false, cond, leb, length, get_or, sym, subst, refl, ap, arith}
use Prim.Native.Nat.{zero, suc}
use Rattle.std.proofs.lemmas.Bool.{cases_eq, cases_lt}
use Rattle.wh_grid.specs.declared.cell.Cell.{Cell}
use Rattle.wh_grid.specs.Grids.{Floor, IsPassable, IsMove, passable_cells}
use Rattle.wh_path.specs.Paths.{at, end, last_index, IsWalk}
use Rattle.wh_path.proofs.AtLemmas.{at-within, at-beyond, origin}
use Rattle.wh_grid.proofs.Pigeons.{passable-most, cell_cases}

-- in n steps from one cell to another, at each time in a cell that is allowed
pub record IsTrip (Ok : Cell → Type 0) (f : ℕ → Cell) (n : ℕ) (from to : Cell) : Type 0 where
  pub starts : f 0 ≡ from
  pub arrives : f n ≡ to
  pub ok : (k : ℕ) → k ≤ n → Ok (f k)
  pub moves : (k : ℕ) → k < n → IsMove (f k) (f (k + 1))

-- the first trip, and then the second
pub then_go : (ℕ → Cell) → ℕ → (ℕ → Cell) → ℕ → Cell
then_go f n h k = cond (leb k n) (f k) (h (k - n))

pub go-first : (f h : ℕ → Cell) (n k : ℕ) → k ≤ n → then_go f n h k ≡ f k
unfolding then_go
go-first f h n k le = ap (λ b. cond b (f k) (h (k - n))) (let e : leb k n ≡ true = grind arith in e)

pub go-second : (f h : ℕ → Cell) (n k : ℕ) → n ≤ k → f n ≡ h 0 → then_go f n h k ≡ h (k - n)
unfolding then_go
go-second f h n k le meets = elim (cases_eq k n) [
  | inl e ↦
      let z : k - n ≡ 0 = omega arith in
      go-first f h n k (omega arith) ∙ ap f e ∙ meets ∙ ap h (sym z)
  | inr ne ↦ ap (λ b. cond b (f k) (h (k - n))) (let e : leb k n ≡ false = grind arith in e)
]

pub trip-join : (Ok : Cell → Type 0) (f h : ℕ → Cell) (n m : ℕ) (a b c : Cell) → IsTrip Ok f n a b → IsTrip Ok h m b c →
    IsTrip Ok (then_go f n h) (n + m) a c
trip-join Ok f h n m a b c first second =
    let meets : f n ≡ h 0 = first.arrives ∙ sym second.starts in
    record {
      starts = go-first f h n 0 (omega arith) ∙ first.starts;
      arrives =
          let e : n + m - n ≡ m = omega arith in
          go-second f h n (n + m) (omega arith) meets ∙ ap h e ∙ second.arrives;
      ok = λ k le. elim (cases_lt k n) [
        | inl l ↦ subst Ok (sym (go-first f h n k (omega arith))) (first.ok k (omega arith))
        | inr l ↦ subst Ok (sym (go-second f h n k l meets)) (second.ok (k - n) (omega arith))
      ];
      moves = λ k lt. elim (cases_lt k n) [
        | inl l ↦ rw (go-first f h n k (omega arith), go-first f h n (k + 1) (omega arith)) (first.moves k l)
        | inr l ↦
            let e : k + 1 - n ≡ k - n + 1 = omega arith in
            rw (go-second f h n k l meets, go-second f h n (k + 1) (omega arith) meets, e) (second.moves (k - n) (omega arith))
      ];
    }

-- a trip that stays
pub trip-stay : (Ok : Cell → Type 0) (c : Cell) → Ok c → IsTrip Ok (λ k. c) 0 c c
trip-stay Ok c ok = record { starts = refl; arrives = refl; ok = λ k le. ok; moves = λ k lt. absurd (omega arith) }

-- the part of a trip from one time to another
pub trip-part : (Ok : Cell → Type 0) (f : ℕ → Cell) (i m : ℕ) → ((k : ℕ) → Ok (f k)) → ((k : ℕ) → IsMove (f k) (f (k + 1))) →
    IsTrip Ok (λ k. f (i + k)) m (f i) (f (i + m))
trip-part Ok f i m ok moves = record {
  starts = ap f (let e : i + 0 ≡ i = omega arith in e);
  arrives = refl;
  ok = λ k le. ok (i + k);
  moves = λ k lt. (let e : i + (k + 1) ≡ i + k + 1 = omega arith in rw e (moves (i + k)));
}

trip-front : (Ok : Cell → Type 0) (f : ℕ → Cell) (n i : ℕ) (a b : Cell) → i ≤ n → IsTrip Ok f n a b → IsTrip Ok f i a (f i)
trip-front Ok f n i a b le trip = record {
  starts = trip.starts;
  arrives = refl;
  ok = λ k h. trip.ok k (omega arith);
  moves = λ k h. trip.moves k (omega arith);
}

trip-back : (Ok : Cell → Type 0) (f : ℕ → Cell) (n j : ℕ) (a b : Cell) → j ≤ n → IsTrip Ok f n a b → IsTrip Ok (λ k. f (j + k)) (n - j) (f j) b
trip-back Ok f n j a b le trip = record {
  starts = ap f (let e : j + 0 ≡ j = omega arith in e);
  arrives = ap f (let e : j + (n - j) ≡ n = omega arith in e) ∙ trip.arrives;
  ok = λ k h. trip.ok (j + k) (omega arith);
  moves = λ k h. (let e : j + (k + 1) ≡ j + k + 1 = omega arith in rw e (trip.moves (j + k) (omega arith)));
}

-- the last cell was met before, or not
meets-before : (f : ℕ → Cell) (c : Cell) (n : ℕ) → ((i : ℕ) × (i < n) × (f i ≡ c)) ⊎ ((i : ℕ) → i < n → f i ≢ c)
meets-before f c zero = inr (λ i h. absurd (omega arith))
meets-before f c (suc n) = elim (meets-before f c n) [
  | inl m ↦ inl (m.0, omega (arith, m.1), m.2)
  | inr none ↦ elim (cell_cases (f n) c) [
    | inl e ↦ inl (n, omega arith, e)
    | inr ne ↦ inr (λ i h. elim (cases_lt i n) [
      | inl l ↦ none i l
      | inr l ↦ (let e : i ≡ n = omega arith in subst (λ k. f k ≢ c) (sym e) ne)
    ])
  ]
]

-- a function of time repeats a cell before n, or its cells differ
repeats : (f : ℕ → Cell) (n : ℕ) → ((i : ℕ) × (j : ℕ) × (i < j) × (j < n) × (f i ≡ f j)) ⊎ ((i j : ℕ) → i < j → j < n → f i ≢ f j)
repeats f zero = inr (λ i j h l. absurd (omega arith))
repeats f (suc n) = elim (repeats f n) [
  | inl r ↦ inl (r.0, r.1, r.2, omega (arith, r.3), r.4)
  | inr differ ↦ elim (meets-before f (f n) n) [
    | inl m ↦ inl (m.0, n, m.1, omega arith, m.2)
    | inr none ↦ inr (λ i j h l. elim (cases_lt j n) [
      | inl b ↦ differ i j h b
      | inr b ↦ (let e : j ≡ n = omega arith in subst (λ k. f i ≢ f k) (sym e) (none i (omega arith)))
    ])
  ]
]

-- a trip of fewer steps than there are passable cells
pub record ShortTrip (g : Floor) (Ok : Cell → Type 0) (from to : Cell) : Type 0 where
  pub f : ℕ → Cell
  pub n : ℕ
  pub trip : IsTrip Ok f n from to
  pub short : n + 1 ≤ passable_cells g

short-by : (g : Floor) (Ok : Cell → Type 0) → ((c : Cell) → Ok c → IsPassable g c) → (fuel n : ℕ) (f : ℕ → Cell) (a b : Cell) → n ≤ fuel →
    IsTrip Ok f n a b → ShortTrip g Ok a b
short-by g Ok passable zero n f a b le trip = record {
  f = f;
  n = n;
  trip = trip;
  short = passable-most g f (n + 1) (λ k h. passable (f k) (trip.ok k (omega arith))) (λ i j h l. absurd (omega arith));
}
short-by g Ok passable (suc fuel) n f a b le trip = elim (repeats f (n + 1)) [
  | inr differ ↦ record {
    f = f;
    n = n;
    trip = trip;
    short = passable-most g f (n + 1) (λ k h. passable (f k) (trip.ok k (omega arith))) differ;
  }
  | inl r ↦
      let i = r.0 in
      let j = r.1 in
      let before : i < j = r.2 in
      let within : j < n + 1 = r.3 in
      let front = trip-front Ok f n i a b (omega arith) trip in
      let back = trip-back Ok f n j a b (omega arith) trip in
      let joined = trip-join Ok f (λ k. f (j + k)) i (n - j) a (f j) b (subst (λ c. IsTrip Ok f i a c) r.4 front) back in
      short-by g Ok passable fuel (i + (n - j)) (then_go f i (λ k. f (j + k))) a b (omega arith) joined
]

-- each trip can be cut short
pub trip-short : (g : Floor) (Ok : Cell → Type 0) → ((c : Cell) → Ok c → IsPassable g c) → (n : ℕ) (f : ℕ → Cell) (a b : Cell) →
    IsTrip Ok f n a b → ShortTrip g Ok a b
trip-short g Ok passable n f a b trip = short-by g Ok passable n n f a b (omega arith) trip

-- the cells up to time n, as a path
abbrev pub run_of : (ℕ → Cell) → ℕ → List Cell
run_of f zero = f 0 ∷ []
run_of f (suc n) = f 0 ∷ run_of (λ k. f (suc k)) n

length-run_of : (f : ℕ → Cell) (n : ℕ) → length (run_of f n) ≡ n + 1
length-run_of f zero = refl
length-run_of f (suc n) = (let e = length-run_of (λ k. f (suc k)) n in omega arith)

pub last-run_of : (f : ℕ → Cell) (n : ℕ) → last_index (run_of f n) ≡ n
last-run_of f n = (let e = length-run_of f n in omega arith)

get_or-run_of : (f : ℕ → Cell) (n k : ℕ) → k ≤ n → get_or (run_of f n) k origin ≡ f k
get_or-run_of f zero zero h = refl
get_or-run_of f zero (suc k) h = absurd (omega arith)
get_or-run_of f (suc n) zero h = refl
get_or-run_of f (suc n) (suc k) h = get_or-run_of (λ i. f (suc i)) n k (omega arith)

pub at-run_of : (f : ℕ → Cell) (n k : ℕ) → k ≤ n → at (run_of f n) k ≡ f k
at-run_of f n k h =
    let e = length-run_of f n in
    at-within (run_of f n) k (omega arith) ∙ get_or-run_of f n k h

pub end-run_of : (f : ℕ → Cell) (n : ℕ) → end (run_of f n) ≡ f n
end-run_of f n = ap (λ k. at (run_of f n) k) (last-run_of f n) ∙ at-run_of f n n (omega arith)

pub at-run_of_past : (f : ℕ → Cell) (n k : ℕ) → n ≤ k → at (run_of f n) k ≡ f n
at-run_of_past f n k h = at-beyond (run_of f n) k (let e = last-run_of f n in omega arith) ∙ end-run_of f n

-- what holds of each cell up to time n holds of the path at all times
pub all-run_of : (P : Cell → Type 0) (f : ℕ → Cell) (n : ℕ) → ((k : ℕ) → k ≤ n → P (f k)) → (k : ℕ) → P (at (run_of f n) k)
all-run_of P f n each k = elim (cases_lt k n) [
  | inl l ↦ subst P (sym (at-run_of f n k (omega arith))) (each k (omega arith))
  | inr l ↦ subst P (sym (at-run_of_past f n k l)) (each n (omega arith))
]

pub walk-run_of : (g : Floor) (f : ℕ → Cell) (n : ℕ) → ((k : ℕ) → k ≤ n → IsPassable g (f k)) → ((k : ℕ) → k < n → IsMove (f k) (f (k + 1))) →
    IsWalk g (run_of f n)
walk-run_of g f n passable moves = record {
  non_empty = (let e = length-run_of f n in omega arith);
  passable = all-run_of (IsPassable g) f n passable;
  moves = λ k. elim (cases_lt k n) [
    | inl l ↦ rw (at-run_of f n k (omega arith), at-run_of f n (k + 1) (omega arith)) (moves k l)
    | inr l ↦ inl (at-run_of_past f n k l ∙ sym (at-run_of_past f n (k + 1) (omega arith)))
  ];
}
