-- What numerals write: digits without a leading zero. A number's own numeral is std's word `decimal`.
use Rattle.std.specs.Prelude.{ℕ, Bool, false, List, [], ◌∷◌, length, Option, Some, None, ◌+◌, ◌-◌, ◌*◌, ◌&&◌, ◌==◌, not, ◌^◌, nat_le, nat_lt, cond}
use Rattle.wh_text.specs.Numbers.{are_digits}
use Rattle.wh_text.specs.Words.{has_bytes}

-- the number that digits write behind those of n
abbrev pub value_after : ℕ → List ℕ → ℕ
value_after n [] = n
value_after n (d ∷ ds) = value_after (10 * n + (d - 48)) ds

-- the number that digits write
abbrev pub value_of : List ℕ → ℕ
value_of ds = value_after 0 ds

-- a zero in front of other bytes
abbrev pub has_leading_zero : List ℕ → Bool
has_leading_zero [] = false
has_leading_zero (b ∷ bs) = (b == 48) && has_bytes bs

-- digits, at least one, and no zero in front of others
abbrev pub is_numeral : List ℕ → Bool
is_numeral word = are_digits word && not (has_leading_zero word)

-- the number that a numeral of at most the given number of digits writes
abbrev pub numeral_of : ℕ → List ℕ → Option ℕ
numeral_of most word = cond (is_numeral word && nat_le (length word) most) (Some (value_of word)) None

-- the number that a numeral writes, if it is below 2 ^ 64
abbrev pub wide_numeral_of : List ℕ → Option ℕ
wide_numeral_of word = cond (is_numeral word && nat_le (length word) 20 && nat_lt (value_of word) (2 ^ 64)) (Some (value_of word)) None
