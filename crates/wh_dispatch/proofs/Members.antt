-- elements of lists, and lists of which each element is before the later ones
use Rattle.std.proofs.Common.{◌≡◌, ℕ, ◌+◌, ◌-◌, ◌<◌, ◌≤◌, ◌∙◌, ◌⊎◌, inl, inr, List, [], ◌∷◌, ◌++◌, length, get_or, Bool, true, false, cond, sym, subst, refl, ap, arith, length-append}
use Prim.Native.Nat.{zero, suc}
use Rattle.std.specs.Prelude.{Contains, map, flat_map}
use Rattle.std.specs.List.{AllPairs, filter, range_with_len}
use Rattle.std.proofs.Math.ListN.{get_or-append}
use Rattle.std.proofs.Math.Seq.{get_or-append_right}
use Rattle.std.proofs.lemmas.Bool.{cases_lt}
use Rattle.std.proofs.lemmas.List.{get_or-map, length-map}
use Rattle.std.proofs.lemmas.List.Elements.{Contains-get_or, Contains-append_left, Contains-append_right, Contains-append_cases}
use Rattle.std.proofs.lemmas.List.FromFn.{length-map-range_with_len, get_or-map-range_with_len}

pub later_in : {X : Type 0} (y : X) (xs : List X) (x : X) → Contains xs x → Contains (y ∷ xs) x
later_in y xs x c = Contains-append_right (y ∷ []) xs x c

pub first_in : {X : Type 0} (x : X) (xs : List X) → Contains (x ∷ xs) x
first_in x xs = (0, omega arith, refl)

pub in_cons : {X : Type 0} (y : X) (xs : List X) (x : X) → Contains (y ∷ xs) x → (y ≡ x) ⊎ Contains xs x
in_cons y xs x (zero, within, is) = inl is
in_cons y xs x (suc k, within, is) = inr (k, omega arith, is)

pub none_in : {X : Type 0} (x : X) → Contains [] x → ⊥
none_in x c = absurd (let h = c.1 in omega arith)

-- an element of a flat map is one of some element's
pub in_flat_map : {X Y : Type 0} (f : X → List Y) (xs : List X) (y : Y) → Contains (flat_map f xs) y → (x : X) × Contains xs x × Contains (f x) y
in_flat_map f [] y c = absurd (none_in y c)
in_flat_map f (x ∷ xs) y c = elim (Contains-append_cases (f x) (flat_map f xs) y c) [
  | inl here ↦ (x, first_in x xs, here)
  | inr there ↦ (let r = in_flat_map f xs y there in (r.0, later_in x xs r.0 r.1, r.2))
]

pub flat_map_in : {X Y : Type 0} (f : X → List Y) (xs : List X) (x : X) (y : Y) → Contains xs x → Contains (f x) y → Contains (flat_map f xs) y
flat_map_in f [] x y c d = absurd (none_in x c)
flat_map_in f (z ∷ xs) x y c d = elim (in_cons z xs x c) [
  | inl e ↦ Contains-append_left (f z) (flat_map f xs) y (subst (λ w. Contains (f w) y) (sym e) d)
  | inr there ↦ Contains-append_right (f z) (flat_map f xs) y (flat_map_in f xs x y there d)
]

pub in_map : {X Y : Type 0} (f : X → Y) (xs : List X) (y : Y) → Contains (map f xs) y → (x : X) × Contains xs x × (f x ≡ y)
in_map f [] y c = absurd (none_in y c)
in_map f (x ∷ xs) y c = elim (in_cons (f x) (map f xs) y c) [
  | inl e ↦ (x, first_in x xs, e)
  | inr there ↦ (let r = in_map f xs y there in (r.0, later_in x xs r.0 r.1, r.2))
]

pub map_in : {X Y : Type 0} (f : X → Y) (xs : List X) (x : X) → Contains xs x → Contains (map f xs) (f x)
map_in f [] x c = absurd (none_in x c)
map_in f (z ∷ xs) x c = elim (in_cons z xs x c) [
  | inl e ↦ subst (λ w. Contains (f z ∷ map f xs) (f w)) e (first_in (f z) (map f xs))
  | inr there ↦ later_in (f z) (map f xs) (f x) (map_in f xs x there)
]

-- an element of what is left by a test passes it
pub in_filter : {X : Type 0} (p : X → Bool) (xs : List X) (x : X) → Contains (filter p xs) x → Contains xs x × (p x ≡ true)
in_filter p [] x c = absurd (none_in x c)
in_filter p (z ∷ xs) x c = go (in_filter p xs x) (p z) refl c
  where
    go : (Contains (filter p xs) x → Contains xs x × (p x ≡ true)) → (b : Bool) → p z ≡ b → Contains (cond b (z ∷ filter p xs) (filter p xs)) x → Contains (z ∷ xs) x × (p x ≡ true)
    go rest true is c = elim (in_cons z (filter p xs) x c) [
      | inl e ↦ (subst (λ w. Contains (z ∷ xs) w) e (first_in z xs), subst (λ w. p w ≡ true) e is)
      | inr there ↦ (let r = rest there in (later_in z xs x r.0, r.1))
    ]
    go rest false is c = (let r = rest c in (later_in z xs x r.0, r.1))

pub filter_in : {X : Type 0} (p : X → Bool) (xs : List X) (x : X) → Contains xs x → p x ≡ true → Contains (filter p xs) x
filter_in p [] x c passes = absurd (none_in x c)
filter_in p (z ∷ xs) x c passes = go (λ d. filter_in p xs x d passes) (p z) refl (in_cons z xs x c)
  where
    go : (Contains xs x → Contains (filter p xs) x) → (b : Bool) → p z ≡ b → (z ≡ x) ⊎ Contains xs x → Contains (cond b (z ∷ filter p xs) (filter p xs)) x
    go rest true is (inl e) = subst (λ w. Contains (z ∷ filter p xs) w) e (first_in z (filter p xs))
    go rest true is (inr there) = later_in z (filter p xs) x (rest there)
    go rest false is (inl e) = absurd (let clash : false ≡ true = sym is ∙ subst (λ w. p w ≡ true) (sym e) passes in cc)
    go rest false is (inr there) = rest there

-- the numbers from one on, up to a given count, each as something
pub in_range : {X : Type 0} (f : ℕ → X) (first count : ℕ) (x : X) → Contains (map f (range_with_len first count)) x → (k : ℕ) × (first ≤ k) × (k < first + count) × (f k ≡ x)
in_range f first count x c =
    let size = length-map-range_with_len f first count in
    let h = c.1 in
    let within : c.0 < count = omega arith in
    (first + c.0, omega arith, omega arith, sym (get_or-map-range_with_len f first count c.0 (first + c.0) x within refl) ∙ c.2)

pub range_in : {X : Type 0} (f : ℕ → X) (first count k : ℕ) → first ≤ k → k < first + count → Contains (map f (range_with_len first count)) (f k)
range_in f first count k low high =
    let size = length-map-range_with_len f first count in
    let within : k - first < count = omega arith in
    let place : first + (k - first) ≡ k = omega arith in
    (k - first, omega arith, get_or-map-range_with_len f first count (k - first) k (f k) within place)

-- ---- each before the later ones

pub pairs_nil : {X : Type 0} (R : X → X → Type 0) → AllPairs R []
pairs_nil R i j d below within = absurd (omega arith)

pub pairs_join : {X : Type 0} (R : X → X → Type 0) (xs ys : List X) → AllPairs R xs → AllPairs R ys → ((x y : X) → Contains xs x → Contains ys y → R x y) → AllPairs R (xs ++ ys)
pairs_join R xs ys p q cross i j d below within =
    let size = length-append xs ys in
    elim (cases_lt j (length xs)) [
      | inl l ↦
          subst (λ a. R (get_or (xs ++ ys) i d) a) (sym (get_or-append xs ys d j l))
          (subst (λ a. R a (get_or xs j d)) (sym (get_or-append xs ys d i (omega arith))) (p i j d below l))
      | inr l ↦ subst (λ a. R (get_or (xs ++ ys) i d) a) (sym (get_or-append_right xs ys j d l)) (elim (cases_lt i (length xs)) [
        | inl m ↦
            subst (λ a. R a (get_or ys (j - length xs) d)) (sym (get_or-append xs ys d i m))
            (cross (get_or xs i d) (get_or ys (j - length xs) d) (Contains-get_or xs i d m) (Contains-get_or ys (j - length xs) d (omega arith)))
        | inr m ↦
            subst (λ a. R a (get_or ys (j - length xs) d)) (sym (get_or-append_right xs ys i d m))
            (q (i - length xs) (j - length xs) d (omega arith) (omega arith))
      ])
    ]

pub pairs_first : {X : Type 0} (R : X → X → Type 0) (x : X) (xs : List X) → AllPairs R (x ∷ xs) → (y : X) → Contains xs y → R x y
pairs_first R x xs p y c = subst (λ a. R x a) c.2 (p 0 (suc c.0) y (omega arith) (let h = c.1 in omega arith))

pub pairs_rest : {X : Type 0} (R : X → X → Type 0) (x : X) (xs : List X) → AllPairs R (x ∷ xs) → AllPairs R xs
pairs_rest R x xs p i j d below within = p (suc i) (suc j) d (omega arith) (omega arith)

pub pairs_map : {X Y : Type 0} (R : Y → Y → Type 0) (f : X → Y) (xs : List X) → AllPairs (λ a b. R (f a) (f b)) xs → AllPairs R (map f xs)
pairs_map R f xs p i j d below within =
    let size = length-map xs f in
    go xs refl
  where
    go : (ys : List _) → xs ≡ ys → R (get_or (map f xs) i d) (get_or (map f xs) j d)
    go [] e = absurd (let size = length-map xs f in let none : length xs ≡ 0 = ap (λ zs. length zs) e in omega arith)
    go (y ∷ ys) e =
        let size = length-map xs f in
        subst (λ a. R a (get_or (map f xs) j d)) (sym (get_or-map f xs i y d (omega arith)))
        (subst (λ a. R (f (get_or xs i y)) a) (sym (get_or-map f xs j y d (omega arith))) (p i j y below (omega arith)))

pub pairs_range : {X : Type 0} (R : X → X → Type 0) (f : ℕ → X) (first count : ℕ) → ((k l : ℕ) → k < l → R (f k) (f l)) → AllPairs R (map f (range_with_len first count))
pairs_range R f first count less i j d below within =
    let size = length-map-range_with_len f first count in
    let inside : j < count = omega arith in
    subst (λ a. R a (get_or (map f (range_with_len first count)) j d)) (sym (get_or-map-range_with_len f first count i (first + i) d (omega arith) refl))
    (subst (λ a. R (f (first + i)) a) (sym (get_or-map-range_with_len f first count j (first + j) d inside refl)) (less (first + i) (first + j) (omega arith)))
