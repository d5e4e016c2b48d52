-- the answers of all points, gathered
use Rattle.std.proofs.Common.{◌≡◌, ℕ, ◌+◌, ◌<◌, List, [], ◌∷◌, length, get_or, zero, suc, refl, ap, subst, arith}
use Rattle.std.specs.List.{AllZip, range_with_len}

module _ {Y : Type 0} (R : ℕ → Y → Type 0) where
  -- of the numbers from s on, each answered
  pub listed_from : (s n : ℕ) (ys : List Y) → AllZip R (range_with_len s n) ys → (length ys ≡ n) × ((a : ℕ) (d : Y) → a < n → R (s + a) (get_or ys a d))
  listed_from s zero [] z = (refl, λ a d h. absurd (omega arith))
  listed_from s zero (y ∷ ys) z = absurd z
  listed_from s (suc n) [] z = absurd z
  listed_from s (suc n) (y ∷ ys) z = (ap suc (listed_from (s + 1) n ys z.1).0, λ a d h. more s n y ys z.0 (listed_from (s + 1) n ys z.1).1 a d h)
    where
      more : (s n : ℕ) (y : Y) (ys : List Y) → R s y → ((a : ℕ) (d : Y) → a < n → R (s + 1 + a) (get_or ys a d)) → (a : ℕ) (d : Y) → a < suc n → R (s + a) (get_or (y ∷ ys) a d)
      more s n y ys here rest zero d h = subst (λ (i : ℕ). R i y) (let e : s ≡ s + 0 = omega arith in e) here
      more s n y ys here rest (suc a) d h = subst (λ (i : ℕ). R i (get_or ys a d)) (let e : s + 1 + a ≡ s + suc a = omega arith in e) (rest a d (omega arith))

  -- of the numbers below n
  pub listed : (n : ℕ) (ys : List Y) → AllZip R (range_with_len 0 n) ys → (length ys ≡ n) × ((a : ℕ) (d : Y) → a < n → R a (get_or ys a d))
  listed n ys z =
      let from_zero = listed_from 0 n ys z in
      (from_zero.0, λ a d h. subst (λ (i : ℕ). R i (get_or ys a d)) (let e : 0 + a ≡ a = omega arith in e) (from_zero.1 a d h))
