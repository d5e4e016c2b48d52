-- What numerals write.
use Rattle.std.proofs.Common.{◌≡◌, ℕ, zero, suc, ◌<◌, ◌≤◌, ◌+◌, ◌-◌, ◌*◌, ◌^◌, Some, Bool, true, false, ◌&&◌, not, List, [], ◌∷◌, ◌++◌, length, take, get_or, eqb, decimal, refl, ap, sym, ◌∙◌, subst, arith, rules, lit<, lit≤}
use Rattle.std.proofs.Math.Nat.{pow-le-pow_right}
use Rattle.std.proofs.Math.Dec.{leb as nat_le, ltb as nat_lt}
use Rattle.std.proofs.lemmas.Bool.{leb-true, le-leb, ltb-true, lt-ltb, ne_eqb, and_parts, and_from, not-true}
use Rattle.std.proofs.lemmas.List.{take_more, take_all, length-take}
use Rattle.std.proofs.lemmas.Fmt.{decimal-digits_value, digits_value-decimal, digits_decimal, decimal_nonempty, first_decimal, length-decimal-le}
use Rattle.std.proofs.lemmas.Str.Parse.{IsNumeralModel, numerals_by_fold, digits_value_short}
use Rattle.std.specs.List.{list_all}
use Rattle.std.proofs.lemmas.Option.{cond_some}
use Rattle.wh_words.specs.Words.{is_plain, IsPlain}
use Rattle.wh_text.specs.Numbers.{is_digit}
use Rattle.wh_text.specs.Words.{has_bytes}
use Rattle.wh_words.specs.Numerals.{value_after, value_of, has_leading_zero, is_numeral, numeral_of, wide_numeral_of}

abbrev pub AreDigits : List ℕ → Type 0
AreDigits ds = list_all is_digit ds ≡ true

own : IsNumeralModel AreDigits (value_after 0)
own = numerals_by_fold _ (search rules) value_after (search rules)

pub value-push : (n : ℕ) (ds : List ℕ) (d : ℕ) → value_after n (ds ++ d ∷ []) ≡ 10 * value_after n ds + (d - 48)
value-push n [] d = refl
value-push n (x ∷ ds) d = value-push (10 * n + (x - 48)) ds d

pub value_below : (ds : List ℕ) (k : ℕ) → AreDigits ds → length ds ≤ k → value_of ds < 10 ^ k
value_below ds k p h = digits_value_short own ds k p h

-- one more digit: its number, and that it is below 10 ^ 19
pub value_next : (ds : List ℕ) (i : ℕ) → AreDigits ds → i < length ds → length ds ≤ 19
    → (value_of (take (i + 1) ds) ≡ 10 * value_of (take i ds) + (get_or ds i 0 - 48)) × (10 * value_of (take i ds) + (get_or ds i 0 - 48) < 10 ^ 19)
value_next ds i p lt few =
    let more : take (i + 1) ds ≡ take i ds ++ get_or ds i 0 ∷ [] = take_more ds i 0 lt in
    let next : value_of (take (i + 1) ds) ≡ 10 * value_of (take i ds) + (get_or ds i 0 - 48) = ap value_of more ∙ value-push 0 (take i ds) (get_or ds i 0) in
    let digits : AreDigits (take (i + 1) ds) = front_digits (i + 1) ds p in
    let below : value_of (take (i + 1) ds) < 10 ^ 19 = value_below (take (i + 1) ds) 19 digits (omega (arith, length-take (i + 1) ds)) in
    (next, subst (λ (v : ℕ). v < 10 ^ 19) next below)
  where
    front_digits : (n : ℕ) (ds : List ℕ) → AreDigits ds → AreDigits (take n ds)
    front_digits zero ds p = refl
    front_digits (suc n) [] p = refl
    front_digits (suc n) (d ∷ ds) p = let b = and_parts (is_digit d) (list_all is_digit ds) p in and_from (is_digit d) (list_all is_digit (take n ds)) b.0 (front_digits n ds b.1)

-- ---- a numeral and its number
no_leading_zero : (word : List ℕ) → has_leading_zero word ≡ false → get_or word 0 0 ≡ 48 → 0 < length word → length word ≡ 1
no_leading_zero [] h e some = absurd (omega arith)
no_leading_zero (b ∷ []) h e some = refl
no_leading_zero (b ∷ c ∷ word) h e some = let z : eqb b 48 ≡ true = rw e refl in let f : true ≡ false = sym z ∙ h_is b h in cc
  where
    h_is : (b : ℕ) → (eqb b 48 && true) ≡ false → eqb b 48 ≡ false
    h_is b h = go (eqb b 48) h
      where
        go : (v : Bool) → (v && true) ≡ false → v ≡ false
        go true h = h
        go false h = refl

some_bytes : (word : List ℕ) → has_bytes word ≡ true → 0 < length word
some_bytes [] h = absurd cc
some_bytes (b ∷ word) h = omega arith

bytes_some : (word : List ℕ) → 0 < length word → has_bytes word ≡ true
bytes_some [] h = absurd (omega arith)
bytes_some (b ∷ word) h = refl

record Numeral (word : List ℕ) : Type 0 where
  some : 0 < length word
  digits : AreDigits word
  leading : has_leading_zero word ≡ false

numeral_parts : (word : List ℕ) → is_numeral word ≡ true → Numeral word
numeral_parts word h =
    let a = and_parts (has_bytes word && list_all is_digit word) (not (has_leading_zero word)) h in
    let b = and_parts (has_bytes word) (list_all is_digit word) a.0 in
    record { some = some_bytes word b.0; digits = b.1; leading = not-true (has_leading_zero word) a.1 }

written : (word : List ℕ) → Numeral word → value_of word < 2 ^ 64 → word ≡ decimal (value_of word)
written word num below = sym (decimal-digits_value own word num.digits num.some (λ e. no_leading_zero word num.leading e num.some) below)

pub numeral_found : (most : ℕ) (word : List ℕ) (n : ℕ) → most ≤ 19 → numeral_of most word ≡ Some n → (word ≡ decimal n) × (n < 10 ^ most)
numeral_found most word n few h =
    let g = cond_some (is_numeral word && nat_le (length word) most) (value_of word) n h in
    let b = and_parts (is_numeral word) (nat_le (length word) most) g.0 in
    let num = numeral_parts word b.0 in
    let short : length word ≤ most = leb-true _ _ b.1 in
    let below : value_of word < 10 ^ most = value_below word most num.digits short in
    let power : 10 ^ most ≤ 10 ^ 19 = pow-le-pow_right (lit< tt) few in
    let limit : 10 ^ 19 ≤ 2 ^ 64 = lit≤ tt in
    subst (λ (v : ℕ). (word ≡ decimal v) × (v < 10 ^ most)) g.1 (written word num (omega arith), below)

first_nonzero : (word : List ℕ) → 48 < get_or word 0 0 → has_leading_zero word ≡ false
first_nonzero [] h = refl
first_nonzero (b ∷ word) h = let e : eqb b 48 ≡ false = ne_eqb b 48 (λ e. absurd (omega arith)) in rw e refl

pub leading-decimal : (n : ℕ) → n < 2 ^ 64 → has_leading_zero (decimal n) ≡ false
leading-decimal zero h = zero_text
  where
    zero_text : has_leading_zero (decimal 0) ≡ false
    zero_text = zero_is (decimal 0) (length-decimal-le 1 0 (omega arith) (omega arith) (omega arith))
      where
        zero_is : (word : List ℕ) → length word ≤ 1 → has_leading_zero word ≡ false
        zero_is [] h = refl
        zero_is (b ∷ []) h = go (eqb b 48)
          where
            go : (v : Bool) → (v && false) ≡ false
            go true = refl
            go false = refl
        zero_is (b ∷ c ∷ word) h = absurd (omega arith)
leading-decimal (suc n) h = first_nonzero (decimal (suc n)) (first_decimal (suc n) (omega arith) h)

pub numeral-decimal : (n : ℕ) → n < 2 ^ 64 → is_numeral (decimal n) ≡ true
numeral-decimal n h =
    let some = bytes_some (decimal n) (decimal_nonempty n h) in
    let digits : AreDigits (decimal n) = digits_decimal own n h in
    rw (some, digits, leading-decimal n h) refl

pub numeral_again : (most n : ℕ) → 0 < most → most ≤ 19 → n < 10 ^ most → numeral_of most (decimal n) ≡ Some n
numeral_again most n some few h =
    let power : 10 ^ most ≤ 10 ^ 19 = pow-le-pow_right (lit< tt) few in
    let limit : 10 ^ 19 ≤ 2 ^ 64 = lit≤ tt in
    let small : n < 2 ^ 64 = omega arith in
    let short : nat_le (length (decimal n)) most ≡ true = le-leb _ _ (length-decimal-le most n some h small) in
    let back : value_of (decimal n) ≡ n = digits_value-decimal own n small in
    rw (numeral-decimal n small, short, back) refl

pub wide_found : (word : List ℕ) (n : ℕ) → wide_numeral_of word ≡ Some n → (word ≡ decimal n) × (n < 2 ^ 64)
wide_found word n h =
    let g = cond_some (is_numeral word && nat_le (length word) 20 && nat_lt (value_of word) (2 ^ 64)) (value_of word) n h in
    let a = and_parts (is_numeral word && nat_le (length word) 20) (nat_lt (value_of word) (2 ^ 64)) g.0 in
    let b = and_parts (is_numeral word) (nat_le (length word) 20) a.0 in
    let below : value_of word < 2 ^ 64 = ltb-true _ _ a.1 in
    subst (λ (v : ℕ). (word ≡ decimal v) × (v < 2 ^ 64)) g.1 (written word (numeral_parts word b.0) below, below)

pub wide_again : (n : ℕ) → n < 2 ^ 64 → wide_numeral_of (decimal n) ≡ Some n
wide_again n small =
    let limit : 2 ^ 64 ≤ 10 ^ 20 = lit≤ tt in
    let short : nat_le (length (decimal n)) 20 ≡ true = le-leb _ _ (length-decimal-le 20 n (omega arith) (omega arith) small) in
    let back : value_of (decimal n) ≡ n = digits_value-decimal own n small in
    let below : nat_lt n (2 ^ 64) ≡ true = lt-ltb _ _ small in
    rw (numeral-decimal n small, short, back, below) refl

digit_plain : (b : ℕ) → is_digit b ≡ true → is_plain b ≡ true
digit_plain b h = let low : 48 ≤ b = leb-true _ _ ((and_parts (nat_le 48 b) (nat_le b 57) h).0) in lt-ltb _ _ (omega arith)

pub digits_plain : (ds : List ℕ) → AreDigits ds → IsPlain ds
digits_plain [] p = refl
digits_plain (d ∷ ds) p =
    let b = and_parts (is_digit d) (list_all is_digit ds) p in
    and_from (is_plain d) (list_all is_plain ds) (digit_plain d b.0) (digits_plain ds b.1)

pub plain-decimal : (n : ℕ) → n < 2 ^ 64 → IsPlain (decimal n)
plain-decimal n h = digits_plain (decimal n) (digits_decimal own n h)

-- twenty digits are nineteen and one more
pub twenty : (ds : List ℕ) → length ds ≡ 20 → value_of ds ≡ 10 * value_of (take 19 ds) + (get_or ds 19 0 - 48)
twenty ds e =
    let more : take (19 + 1) ds ≡ take 19 ds ++ get_or ds 19 0 ∷ [] = take_more ds 19 0 (omega arith) in
    let all : take 20 ds ≡ ds = take_all 20 ds (omega arith) in
    sym (ap value_of all) ∙ ap value_of more ∙ value-push 0 (take 19 ds) (get_or ds 19 0)

pub digits_of_numeral : (word : List ℕ) → is_numeral word ≡ true → AreDigits word
digits_of_numeral word h = (numeral_parts word h).digits

pub decimal_digits : (n : ℕ) → n < 2 ^ 64 → AreDigits (decimal n)
decimal_digits n h = digits_decimal own n h
