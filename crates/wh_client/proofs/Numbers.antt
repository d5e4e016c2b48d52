-- The numbers of clients, and how they are written.
use Rattle.std.proofs.Common.{◌≡◌, ℕ, zero, suc, ◌<◌, ◌≤◌, length, get_or, Result, Ok, decimal, ap, sym, ◌∙◌, arith, lit<, lit≤}
use Rattle.std.specs.Str.Parse.{AllDigits, ParsesUnsigned, digits_value}
use Rattle.std.proofs.lemmas.Fmt.{decimal-digits_value, decimal_digit, decimal_injective, first_decimal, parse-decimal}
use Rattle.std.proofs.lemmas.Str.Parse.{IsNumeralModel, numerals_by_value, parse_plain, tells_digits}
use Rattle.std.proofs.lemmas.Result.{OkIff-at_ok}
use Rattle.wh_client.specs.Clients.{IsNumber, Text}

own : IsNumeralModel (AllDigits 10) (digits_value 10)
own = numerals_by_value (AllDigits 10) tells_digits

-- how a number begins: with no plus, and with a zero only where it is 0
first_digit : (n : ℕ) → n ≤ 61 → 48 ≤ get_or (decimal n) 0 0
first_digit zero below = rw (decimal_digit 0 (lit< tt)) (lit≤ tt)
first_digit (suc n) below = omega (arith, first_decimal (suc n) (omega arith) (omega arith))

pub no_plus : (text : Text) (n : ℕ) → get_or text 0 0 ≡ 43 → IsNumber text n → ⊥
no_plus text n plus is =
    let first : get_or (decimal n) 0 0 ≡ 43 = ap (λ t. get_or t 0 0) (sym is.0) ∙ plus in
    absurd (omega (arith, first_digit n is.1, first))

zero_alone : (n : ℕ) → n ≤ 61 → get_or (decimal n) 0 0 ≡ 48 → length (decimal n) ≤ 1
zero_alone zero below first = rw (decimal_digit 0 (lit< tt)) (lit≤ tt)
zero_alone (suc n) below first = absurd (omega (arith, first_decimal (suc n) (omega arith) (omega arith), first))

pub no_zero : (text : Text) (n : ℕ) → get_or text 0 0 ≡ 48 → 1 < length text → IsNumber text n → ⊥
no_zero text n first long is =
    let alone : length (decimal n) ≤ 1 = zero_alone n is.1 (ap (λ t. get_or t 0 0) (sym is.0) ∙ first) in
    absurd (omega (arith, alone, ap length is.0, long))

-- what was read of a text without these is its number, and it has no other
pub read_number : {E : Type 0} (text : Text) (n : ℕ) (read : Result ℕ E) → ParsesUnsigned 32 10 text read → read ≡ Ok n → (get_or text 0 0 ≡ 43 → ⊥) → (get_or text 0 0 ≡ 48 → length text ≤ 1) → n ≤ 61 → IsNumber text n
read_number text n read parses ok plain alone below =
    let parts = OkIff-at_ok read _ _ n (parse_plain own 32 text read parses plain) ok in
    let value : n ≡ digits_value 10 text = parts.1 in
    let one : get_or text 0 0 ≡ 48 → length text ≡ 1 = λ e. omega (arith, alone e, parts.0.1) in
    let written : decimal (digits_value 10 text) ≡ text = decimal-digits_value own text parts.0.0 parts.0.1 one (omega (arith, value, below)) in
    (sym written ∙ ap decimal (sym value), below)

pub one_number : {E : Type 0} (text : Text) (n : ℕ) (read : Result ℕ E) → ParsesUnsigned 32 10 text read → IsNumber text n → read ≡ Ok n
one_number text n read parses is = parse-decimal 32 n text read (omega (arith, is.1)) (omega (arith, is.1)) is.0 parses

-- a text writes one number
pub one_number_alone : (text : Text) (m n : ℕ) → IsNumber text m → IsNumber text n → m ≡ n
one_number_alone text m n a b = decimal_injective m n (omega (arith, a.1)) (omega (arith, b.1)) (sym a.0 ∙ b.0)
