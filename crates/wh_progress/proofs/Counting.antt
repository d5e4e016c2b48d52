-- how many elements of a list pass a test
use Rattle.std.proofs.Common.{◌≡◌, ◌≢◌, ℕ, ◌+◌, ◌<◌, ◌≤◌, List, [], ◌∷◌, ◌++◌, Bool, true, false, cond, ◌||◌, length, get_or, map, set, refl, ap, arith, ◌⊎◌, inl, inr}
use Prim.Native.Nat.{zero, suc}
use Rattle.std.specs.Prelude.{count_by}
use Rattle.std.proofs.lemmas.Bool.{false≢true}
use Rattle.std.proofs.lemmas.List.Sums.{sum_by-cons, sum_by-set, sum_by_push, count_by-le-length}

abbrev pub bit : Bool → ℕ
bit b = cond b 1 0

pub count-cons : {X : Type 0} (p : X → Bool) (x : X) (xs : List X) → count_by p (x ∷ xs) ≡ bit (p x) + count_by p xs
count-cons p x xs = sum_by-cons (λ y. bit (p y)) x xs

bit-less : (b c : Bool) → (b ≡ true → c ≡ true) → bit b ≤ bit c
bit-less true c h = rw (h refl) (omega arith)
bit-less false c h = omega arith

pub bit-few : (b : Bool) → bit b ≤ 1
bit-few true = omega arith
bit-few false = omega arith

pub fails-bit : (b : Bool) → (b ≢ true) → bit b ≡ 0
fails-bit true fails = absurd (fails refl)
fails-bit false fails = refl

-- a test passes or fails
pub passes_or_fails : (b : Bool) → (b ≡ true) ⊎ (b ≢ true)
passes_or_fails true = inl refl
passes_or_fails false = inr false≢true

bit-or : (b c : Bool) → bit (b || c) ≤ bit b + bit c
bit-or true c = omega arith
bit-or false c = omega arith

-- what passes one test passes the other
pub count-less : {X : Type 0} (p q : X → Bool) (xs : List X) → ((x : X) → p x ≡ true → q x ≡ true) → count_by p xs ≤ count_by q xs
count-less p q [] each = omega arith
count-less p q (x ∷ xs) each =
    let a = count-cons p x xs in
    let b = count-cons q x xs in
    let c = bit-less (p x) (q x) (each x) in
    let d = count-less p q xs each in
    omega arith

-- a change of each element that the test does not see
pub count-mapped : {X : Type 0} (p : X → Bool) (f : X → X) (xs : List X) → ((x : X) → p (f x) ≡ p x) → count_by p (map f xs) ≡ count_by p xs
count-mapped p f [] same = refl
count-mapped p f (x ∷ xs) same =
    let a = count-cons p (f x) (map f xs) in
    let b = count-cons p x xs in
    let c : bit (p (f x)) ≡ bit (p x) = ap bit (same x) in
    let d = count-mapped p f xs same in
    omega arith

-- one element written
pub count-set : {X : Type 0} (p : X → Bool) (xs : List X) (i : ℕ) (y d : X) → i < length xs →
    count_by p (set xs i y) + bit (p (get_or xs i d)) ≡ count_by p xs + bit (p y)
count-set p xs i y d h = sum_by-set (λ x. bit (p x)) xs i y d h

pub count-push : {X : Type 0} (p : X → Bool) (xs : List X) (y : X) → count_by p (xs ++ y ∷ []) ≡ count_by p xs + bit (p y)
count-push p xs y = sum_by_push (λ x. bit (p x)) xs y

-- two tests together
pub count-or : {X : Type 0} (p q : X → Bool) (xs : List X) → count_by (λ x. p x || q x) xs ≤ count_by p xs + count_by q xs
count-or p q [] = omega arith
count-or p q (x ∷ xs) =
    let a = count-cons (λ y. p y || q y) x xs in
    let b = count-cons p x xs in
    let c = count-cons q x xs in
    let d = bit-or (p x) (q x) in
    let e = count-or p q xs in
    omega arith

-- none passes
pub count-zero : {X : Type 0} (p : X → Bool) (xs : List X) (d : X) → ((i : ℕ) → i < length xs → p (get_or xs i d) ≡ true → ⊥) → count_by p xs ≡ 0
count-zero p [] d none = refl
count-zero p (x ∷ xs) d none =
    let a = count-cons p x xs in
    let b = count-zero p xs d (λ i h. none (suc i) (omega arith)) in
    let c : bit (p x) ≡ 0 = fails-bit (p x) (none 0 (omega arith)) in
    omega arith

-- where no two pass, one does at most
pub count-one : {X : Type 0} (p : X → Bool) (xs : List X) (d : X) →
    ((i j : ℕ) → i < length xs → j < length xs → p (get_or xs i d) ≡ true → p (get_or xs j d) ≡ true → i ≡ j) → count_by p xs ≤ 1
count-one p [] d one = omega arith
count-one p (x ∷ xs) d one =
    let a = count-cons p x xs in
    elim (passes_or_fails (p x)) [
      | inl e ↦
          let b = count-zero p xs d (λ i h passes. (let same = one 0 (suc i) (omega arith) (omega arith) e passes in omega arith)) in
          let c = bit-few (p x) in
          omega arith
      | inr fails ↦
          let b = count-one p xs d (λ i j hi hj pi pj. (let same = one (suc i) (suc j) (omega arith) (omega arith) pi pj in omega arith)) in
          let c = fails-bit (p x) fails in
          omega arith
    ]

-- where one span, one is counted
pub count-some : {X : Type 0} (p : X → Bool) (xs : List X) (i : ℕ) (d : X) → i < length xs → p (get_or xs i d) ≡ true → 1 ≤ count_by p xs
count-some p [] i d h e = absurd (omega arith)
count-some p (x ∷ xs) zero d h e =
    let a = count-cons p x xs in
    let c : bit (p x) ≡ 1 = ap bit e in
    omega arith
count-some p (x ∷ xs) (suc i) d h e =
    let a = count-cons p x xs in
    let b = count-some p xs i d (omega arith) e in
    omega arith

-- where one fails, not all are counted
pub count-fails : {X : Type 0} (p : X → Bool) (xs : List X) (i : ℕ) (d : X) → i < length xs → p (get_or xs i d) ≢ true → count_by p xs + 1 ≤ length xs
count-fails p [] i d h fails = absurd (omega arith)
count-fails p (x ∷ xs) zero d h fails =
    let a = count-cons p x xs in
    let b = fails-bit (p x) fails in
    let c = count_by-le-length p xs in
    omega arith
count-fails p (x ∷ xs) (suc i) d h fails =
    let a = count-cons p x xs in
    let b = bit-few (p x) in
    let c = count-fails p xs i d (omega arith) fails in
    omega arith

-- what passes one test passes the other, and one more does
pub count-fewer : {X : Type 0} (p q : X → Bool) (xs : List X) (i : ℕ) (d : X) → ((x : X) → p x ≡ true → q x ≡ true) → i < length xs →
    p (get_or xs i d) ≢ true → q (get_or xs i d) ≡ true → count_by p xs + 1 ≤ count_by q xs
count-fewer p q [] i d each h fails passes = absurd (omega arith)
count-fewer p q (x ∷ xs) zero d each h fails passes =
    let a = count-cons p x xs in
    let b = count-cons q x xs in
    let c = fails-bit (p x) fails in
    let e : bit (q x) ≡ 1 = ap bit passes in
    let f = count-less p q xs each in
    omega arith
count-fewer p q (x ∷ xs) (suc i) d each h fails passes =
    let a = count-cons p x xs in
    let b = count-cons q x xs in
    let c = bit-less (p x) (q x) (each x) in
    let f = count-fewer p q xs i d each (omega arith) fails passes in
    omega arith
