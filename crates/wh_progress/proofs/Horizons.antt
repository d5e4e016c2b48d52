-- the greatest number of steps left, as paths change
use Rattle.std.proofs.Common.{◌≡◌, ℕ, ◌-◌, ◌<◌, ◌≤◌, List, [], ◌∷◌, length, map, set, remove, refl, ap, ◌∙◌, arith, ◌≢◌, ◌⊎◌, inl, inr}
use Prim.Native.Nat.{zero, suc}
use Rattle.std.proofs.lemmas.Bool.{cases_lt}
use Rattle.wh_grid.specs.declared.cell.Cell.{Cell}
use Rattle.wh_path.specs.Paths.{last_index, steps_left, horizon, advanced}

last-advanced : (p : List Cell) → last_index (advanced p) ≡ last_index p - 1
last-advanced [] = omega arith
last-advanced (only ∷ []) = omega arith
last-advanced (first ∷ next ∷ rest) = omega arith

-- a tick takes one step of it
pub horizon-advanced : (paths : List (List Cell)) → horizon (map advanced paths) ≡ horizon paths - 1
horizon-advanced [] = omega arith
horizon-advanced (p ∷ paths) = (let a = last-advanced p in let b = horizon-advanced paths in omega arith)

pub horizon-set : (paths : List (List Cell)) (i : ℕ) (p : List Cell) (bound : ℕ) → horizon paths ≤ bound → last_index p ≤ bound → horizon (set paths i p) ≤ bound
horizon-set [] i p bound few short = omega arith
horizon-set (q ∷ paths) zero p bound few short = omega arith
horizon-set (q ∷ paths) (suc i) p bound few short =
    let rest : horizon paths ≤ bound = omega arith in
    let h = horizon-set paths i p bound rest short in
    omega arith

-- that of the others is no more
pub horizon-others : (paths : List (List Cell)) (i : ℕ) → horizon (remove paths i) ≤ horizon paths
horizon-others [] zero = omega arith
horizon-others [] (suc i) = omega arith
horizon-others (q ∷ paths) zero = omega arith
horizon-others (q ∷ paths) (suc i) = (let h = horizon-others paths i in omega arith)

-- an agent has no more steps left
pub steps-few : (paths : List (List Cell)) (i : ℕ) → i < length paths → steps_left paths i ≤ horizon paths
steps-few [] i h = absurd (omega arith)
steps-few (q ∷ paths) zero h = omega arith
steps-few (q ∷ paths) (suc i) h = (let e = steps-few paths i (omega arith) in omega arith)

rests : (p : List Cell) → last_index p ≡ 0 → advanced p ≡ p
rests [] none = refl
rests (only ∷ []) none = refl
rests (first ∷ next ∷ rest) none = absurd (omega arith)

-- paths with no step left stay as they are
pub all-rest : (paths : List (List Cell)) → horizon paths ≡ 0 → map advanced paths ≡ paths
all-rest [] none = refl
all-rest (q ∷ paths) none =
    ap (λ p. p ∷ map advanced paths) (rests q (omega arith)) ∙ ap (λ ps. q ∷ ps) (all-rest paths (omega arith))

-- it is that of some path, or nothing
pub horizon-at : (paths : List (List Cell)) → (horizon paths ≡ 0) ⊎ ((i : ℕ) × (i < length paths) × (steps_left paths i ≡ horizon paths))
horizon-at [] = inl refl
horizon-at (p ∷ paths) = elim (cases_lt (horizon paths) (last_index p)) [
  | inl first ↦ inr (0, omega arith, omega arith)
  | inr rest ↦ elim (horizon-at paths) [
    | inl none ↦ inl (omega arith)
    | inr some ↦ inr (suc some.0, (let h = some.1 in omega arith), (let e = some.2 in omega arith))
  ]
]

-- that of the others is that of another path, or nothing
pub others-at : (paths : List (List Cell)) (but : ℕ) → (horizon (remove paths but) ≡ 0) ⊎ ((i : ℕ) × (i < length paths) × (i ≢ but) × (steps_left paths i ≡ horizon (remove paths but)))
others-at [] zero = inl refl
others-at [] (suc but) = inl refl
others-at (p ∷ paths) zero = elim (horizon-at paths) [
  | inl none ↦ inl none
  | inr some ↦ inr (suc some.0, (let h = some.1 in omega arith), λ e. omega arith, some.2)
]
others-at (p ∷ paths) (suc but) = elim (cases_lt (horizon (remove paths but)) (last_index p)) [
  | inl first ↦ inr (0, omega arith, λ e. omega arith, omega arith)
  | inr rest ↦ elim (others-at paths but) [
    | inl none ↦ inl (omega arith)
    | inr some ↦ inr (suc some.0, (let h = some.1 in omega arith), λ e. some.2 (let s : some.0 ≡ but = omega arith in s), (let e = some.3 in omega arith))
  ]
]

pub steps-advanced : (paths : List (List Cell)) (i : ℕ) → i < length paths → steps_left (map advanced paths) i ≡ steps_left paths i - 1
steps-advanced [] i h = absurd (omega arith)
steps-advanced (p ∷ paths) zero h = last-advanced p
steps-advanced (p ∷ paths) (suc i) h = steps-advanced paths i (omega arith)
