-- What the sum of a text is written as.
use Rattle.std.specs.Prelude.{ℕ, Bool, List, length, Option, Some, None, ◌&&◌, ◌||◌, ◌==◌, nat_le, cond}
use Rattle.std.specs.List.{list_all}

-- a small hexadecimal digit
abbrev pub is_sum_digit : ℕ → Bool
is_sum_digit b = (nat_le 48 b && nat_le b 57) || (nat_le 97 b && nat_le b 102)

-- 64 such digits
abbrev pub is_sum : List ℕ → Bool
is_sum word = (length word == 64) && list_all is_sum_digit word

abbrev pub sum_of : List ℕ → Option (List ℕ)
sum_of word = cond (is_sum word) (Some word) None
