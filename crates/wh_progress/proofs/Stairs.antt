-- Numbers that go up by steps: below each that is above the step there is a smaller one, by no more than a step. So none is above as
-- many steps as there are numbers.
use Rattle.std.proofs.Common.{◌≡◌, ◌≢◌, ℕ, ◌+◌, ◌*◌, ◌<◌, ◌≤◌, List, true, length, get_or, set, ap, arith, ◌∙◌, ◌⊎◌, inl, inr, ltb}
use Prim.Native.Nat.{zero, suc}
use Rattle.std.specs.Prelude.{count_by}
use Rattle.std.proofs.lemmas.Bool.{cases_eq, cases_lt}
use Rattle.std.proofs.lemmas.Nat.{mul-le}
use Rattle.std.proofs.lemmas.List.{get_or-set_same, get_or-set_other, length-set}
use Rattle.wh_progress.proofs.Counting.{count-fails, count-fewer}

-- one below another, by no more than a step
pub record IsBelow {X : Type 0} (f : X → ℕ) (d : X) (step : ℕ) (xs : List X) (high : ℕ) : Type 0 where
  pub place : ℕ
  pub known : place < length xs
  pub lower : f (get_or xs place d) < high
  pub near : high ≤ f (get_or xs place d) + step

abbrev pub AreStairs : {X : Type 0} → (X → ℕ) → X → ℕ → List X → Type 0
AreStairs f d step xs = (i : ℕ) → i < length xs → step < f (get_or xs i d) → IsBelow f d step xs (f (get_or xs i d))

lt-ltb : (a b : ℕ) → a < b → ltb a b ≡ true
lt-ltb a b h = grind arith

ltb-lt : (a b : ℕ) → ltb a b ≡ true → a < b
ltb-lt a b e = grind arith

-- how many are lower
abbrev lower : {X : Type 0} → (X → ℕ) → ℕ → List X → ℕ
lower f high xs = count_by (λ x. ltb (f x) high) xs

low-enough : (high count step : ℕ) → high ≤ step → high ≤ (count + 1) * step
low-enough high count step few = (let m = mul-le 1 step (count + 1) step (omega arith) (omega arith) in omega arith)

one-step-more : (low high few many step : ℕ) → high ≤ low + step → low ≤ (few + 1) * step → few + 1 ≤ many → high ≤ (many + 1) * step
one-step-more low high few many step near below less = (let m = mul-le (few + 2) step (many + 1) step (omega arith) (omega arith) in omega arith)

climb : {X : Type 0} (f : X → ℕ) (d : X) (step : ℕ) (xs : List X) → AreStairs f d step xs → (fuel i : ℕ) → i < length xs → f (get_or xs i d) ≤ fuel →
    f (get_or xs i d) ≤ (lower f (f (get_or xs i d)) xs + 1) * step
climb f d step xs stairs zero i h few = omega arith
climb f d step xs stairs (suc fuel) i h few =
    let high = f (get_or xs i d) in
    elim (cases_lt step high) [
      | inr low ↦ low-enough high (lower f high xs) step low
      | inl above ↦
          let b = stairs i h above in
          let low = f (get_or xs b.place d) in
          let less = b.lower in
          let rest = climb f d step xs stairs fuel b.place b.known (omega arith) in
          let fewer = count-fewer (λ x. ltb (f x) low) (λ x. ltb (f x) high) xs b.place d
          (λ x e. lt-ltb (f x) high (let l = ltb-lt (f x) low e in omega arith)) b.known
          (λ e. (let l = ltb-lt low low e in omega arith)) (lt-ltb low high less) in
          one-step-more low high (lower f low xs) (lower f high xs) step b.near rest fewer
    ]

pub stairs-height : {X : Type 0} (f : X → ℕ) (d : X) (step : ℕ) (xs : List X) → AreStairs f d step xs → (i : ℕ) → i < length xs →
    f (get_or xs i d) ≤ length xs * step
stairs-height f d step xs stairs i h =
    let high = f (get_or xs i d) in
    let up = climb f d step xs stairs high i h (omega arith) in
    let few = count-fails (λ x. ltb (f x) high) xs i d h (λ e. (let l = ltb-lt high high e in omega arith)) in
    let m = mul-le (lower f high xs + 1) step (length xs) step few (omega arith) in
    omega arith

-- the next lower one that is not at a place where the number is 0
record IsBelowBut {X : Type 0} (f : X → ℕ) (d : X) (step : ℕ) (xs : List X) (but high : ℕ) : Type 0 where
  pub place : ℕ
  pub known : place < length xs
  pub other : place ≢ but
  pub lower : f (get_or xs place d) < high
  pub near : high ≤ f (get_or xs place d) + step

descend : {X : Type 0} (f : X → ℕ) (d : X) (step : ℕ) (xs : List X) (but high : ℕ) → AreStairs f d step xs → f (get_or xs but d) ≡ 0 → step < high →
    (fuel i : ℕ) → i < length xs → i ≢ but → f (get_or xs i d) ≤ fuel → high ≤ f (get_or xs i d) + step → IsBelowBut f d step xs but high
descend f d step xs but high stairs none above zero i h ne few near = record { place = i; known = h; other = ne; lower = omega arith; near = near }
descend f d step xs but high stairs none above (suc fuel) i h ne few near = elim (cases_lt (f (get_or xs i d)) high) [
  | inl lower ↦ record { place = i; known = h; other = ne; lower = lower; near = near }
  | inr no_lower ↦
      let b = stairs i h (omega arith) in
      let less = b.lower in
      let by = b.near in
      descend f d step xs but high stairs none above fuel b.place b.known
      (λ e. (let z : f (get_or xs b.place d) ≡ 0 = ap (λ k. f (get_or xs k d)) e ∙ none in omega arith)) (omega arith) (omega arith)
]

-- a number that was 0 becomes one that is no more than a step above another
pub stairs-set : {X : Type 0} (f : X → ℕ) (d : X) (step : ℕ) (xs : List X) (at : ℕ) (x : X) → AreStairs f d step xs → at < length xs → f (get_or xs at d) ≡ 0 →
    (f x ≤ step) ⊎ ((j : ℕ) × (j < length xs) × (j ≢ at) × (f x ≤ f (get_or xs j d) + step)) → AreStairs f d step (set xs at x)
stairs-set f d step xs at x stairs known none short i h above =
    let size = length-set xs at x in
    elim (cases_eq i at) [
      | inl e ↦
          let this : f (get_or (set xs at x) i d) ≡ f x = ap (λ k. f (get_or (set xs at x) k d)) e ∙ ap f (get_or-set_same xs at x d known) in
          elim short [
            | inl low ↦ absurd (omega arith)
            | inr by ↦
                let b = descend f d step xs at (f x) stairs none (omega arith) (f (get_or xs by.0 d)) by.0 by.1 by.2 (omega arith) by.3 in
                let same : f (get_or (set xs at x) b.place d) ≡ f (get_or xs b.place d) = ap f (get_or-set_other xs at b.place x d b.other) in
                let lower = b.lower in
                let near = b.near in
                let inside = b.known in
                record { place = b.place; known = omega arith; lower = omega arith; near = omega arith }
          ]
      | inr ne ↦
          let this : f (get_or (set xs at x) i d) ≡ f (get_or xs i d) = ap f (get_or-set_other xs at i x d ne) in
          let b = stairs i (omega arith) (omega arith) in
          let lower = b.lower in
          let near = b.near in
          let inside = b.known in
          let other : b.place ≢ at = λ e. (let z : f (get_or xs b.place d) ≡ 0 = ap (λ k. f (get_or xs k d)) e ∙ none in omega arith) in
          let same : f (get_or (set xs at x) b.place d) ≡ f (get_or xs b.place d) = ap f (get_or-set_other xs at b.place x d other) in
          record { place = b.place; known = omega arith; lower = omega arith; near = omega arith }
    ]
