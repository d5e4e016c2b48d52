-- the digits of a sum
use Rattle.std.proofs.Common.{◌≡◌, ℕ, zero, suc, ◌/◌, ◌%◌, ◌<◌, Bool, true, ◌&&◌, List, [], ◌∷◌, length, slice_index, refl, arith, inl, inr}
use Rattle.std.proofs.lemmas.Bool.{and_parts, cases_lt}
use Rattle.std.specs.List.{list_all, AllByRecursion}
use Rattle.hex.specs.Hex.{encode_lower, encode_with, lower_digits}
use Rattle.hex.proofs.HexLemmas.{length-encode_with}
use Rattle.wh_front.specs.Sums.{is_sum, is_sum_digit}

-- the test of one place of the table, which computes
abbrev is_digit_at : ℕ → Bool
is_digit_at d = is_sum_digit (slice_index lower_digits d)

-- the test of the first n places
abbrev all_digits_to : ℕ → Bool
all_digits_to zero = true
all_digits_to (suc n) = is_digit_at n && all_digits_to n

digit_in : (n d : ℕ) → all_digits_to n ≡ true → d < n → is_digit_at d ≡ true
digit_in zero d h below = absurd (omega (arith, below))
digit_in (suc n) d h below =
    let parts = and_parts (is_digit_at n) (all_digits_to n) h in
    elim (cases_lt d n) [
      | inl lower ↦ digit_in n d parts.1 lower
      | inr top ↦
          let e : d ≡ n = omega (arith, below, top) in
          rw e parts.0
    ]

digit : (d : ℕ) → d < 16 → is_digit_at d ≡ true
digit d below = digit_in 16 d refl below

all_digits : (bytes : List ℕ) → AllByRecursion (λ (b : ℕ). b < 256) bytes → list_all is_sum_digit (encode_lower bytes) ≡ true
unfolding encode_with
all_digits [] small = refl
all_digits (b ∷ rest) small =
    let high : b / 16 < 16 = (let s = small.0 in omega (arith, s)) in
    let low : b % 16 < 16 = omega arith in
    rw (digit (b / 16) high, digit (b % 16) low) (all_digits rest small.1)

-- they are a sum
pub is_sum_of : (bytes : List ℕ) → length bytes ≡ 32 → AllByRecursion (λ (b : ℕ). b < 256) bytes → is_sum (encode_lower bytes) ≡ true
is_sum_of bytes count small =
    let long : length (encode_lower bytes) ≡ 64 = (let e = length-encode_with lower_digits bytes in omega (arith, e, count)) in
    rw (long, all_digits bytes small) refl
