-- Numbers at the front of a text, and lines of usual entries.
use Rattle.std.proofs.Common.{◌≡◌, ◌≢◌, ℕ, zero, suc, ◌<◌, ◌≤◌, ◌+◌, ◌-◌, ◌*◌, ◌^◌, Some, Bool, true, false, ◌&&◌, List, [], ◌∷◌, ◌++◌, length, take, drop, get_or, eqb, decimal, refl, ap, ◌∙◌, codes, arith, append_assoc, lit≤}
use Rattle.std.proofs.Math.Dec.{leb as nat_le}
use Rattle.std.proofs.lemmas.Bool.{le-leb, ne_eqb, and_from}
use Rattle.std.proofs.lemmas.List.{take_more, length-take}
use Rattle.wh_text.specs.Numbers.{is_digit}
use Rattle.wh_text.specs.Words.{has_bytes}
use Rattle.wh_words.specs.Numerals.{value_of, has_leading_zero, is_numeral, numeral_of}
use Rattle.wh_event.specs.declared.reply.Reply.TheVariants.{Clock}
use Rattle.wh_log.specs.Told.{full_text}
use Rattle.wh_words.proofs.NumeralLemmas.{AreDigits, value-push, value_below, numeral_found}

take_drop : (n : ℕ) (xs : List ℕ) → xs ≡ take n xs ++ drop n xs
take_drop zero xs = refl
take_drop (suc n) [] = refl
take_drop (suc n) (x ∷ xs) = ap (λ (l : List ℕ). x ∷ l) (take_drop n xs)

front_bytes : (i : ℕ) (text : List ℕ) → 0 < i → i ≤ length text → has_bytes (take i text) ≡ true
front_bytes zero text p q = absurd (omega arith)
front_bytes (suc i) [] p q = absurd (omega arith)
front_bytes (suc i) (b ∷ text) p q = refl

-- the number that digits at the front write
pub front_number : (text : List ℕ) (i : ℕ) → 0 < i → i ≤ 9 → i ≤ length text → AreDigits (take i text) → has_leading_zero (take i text) ≡ false
    → (text ≡ decimal (value_of (take i text)) ++ drop i text) × (value_of (take i text) < 10 ^ 9)
front_number text i some few inside digits leading =
    let bytes : has_bytes (take i text) ≡ true = front_bytes i text some inside in
    let numeral : is_numeral (take i text) ≡ true = rw (bytes, digits, leading) refl in
    let short : nat_le (length (take i text)) 9 ≡ true = le-leb _ _ (omega (arith, length-take i text)) in
    let is : numeral_of 9 (take i text) ≡ Some (value_of (take i text)) = rw (numeral, short) refl in
    let found = numeral_found 9 (take i text) (value_of (take i text)) (lit≤ tt) is in
    (take_drop i text ∙ ap (λ (w : List ℕ). w ++ drop i text) found.0, found.1)

-- one byte has no leading zero
pub one_leads : (text : List ℕ) → has_leading_zero (take 1 text) ≡ false
one_leads [] = refl
one_leads (b ∷ text) = go (eqb b 48)
  where
    go : (v : Bool) → (v && false) ≡ false
    go true = refl
    go false = refl

-- nor has a text that begins with another byte
pub other_leads : (text : List ℕ) (i : ℕ) → get_or text 0 0 ≢ 48 → has_leading_zero (take i text) ≡ false
other_leads text zero h = refl
other_leads [] (suc i) h = refl
other_leads (b ∷ text) (suc i) h = let e : eqb b 48 ≡ false = ne_eqb b 48 h in rw e refl

-- one digit more
pub value_more : (text : List ℕ) (i : ℕ) → i < length text → value_of (take (i + 1) text) ≡ 10 * value_of (take i text) + (get_or text i 0 - 48)
value_more text i below = ap value_of (take_more text i 0 below) ∙ value-push 0 (take i text) (get_or text i 0)

pub digit_is : (b : ℕ) → 48 ≤ b → b ≤ 57 → is_digit b ≡ true
digit_is b low high = and_from (nat_le 48 b) (nat_le b 57) (le-leb _ _ low) (le-leb _ _ high)

-- eight digits write a small number
pub front_below : (text : List ℕ) (i : ℕ) → i < 9 → AreDigits (take i text) → value_of (take i text) < 10 ^ 8
front_below text i few digits = value_below (take i text) 8 digits (omega (arith, length-take i text))

-- the same of a value and of what follows
pub front_read : (text : List ℕ) (i value : ℕ) (rest : List ℕ) → 0 < i → i ≤ 9 → i ≤ length text → AreDigits (take i text) → has_leading_zero (take i text) ≡ false
    → value ≡ value_of (take i text) → rest ≡ drop i text → (text ≡ decimal value ++ rest) × (value < 10 ^ 9)
front_read text i value rest some few inside digits leading is behind = rw (is, behind) (front_number text i some few inside digits leading)

-- a clock's words in a row
pub clock_text : (now picked dropped : ℕ) (a b c d e f : List ℕ) → a ≡ decimal now ++ 32 ∷ b → b ≡ codes "picked " ++ c → c ≡ decimal picked ++ 32 ∷ d → d ≡ codes "dropped " ++ e → e ≡ decimal dropped ++ 10 ∷ f
    → codes "clock " ++ a ≡ full_text (Clock now picked dropped) ++ 10 ∷ f
clock_text now picked dropped a b c d e f p q r s t = rw (p, q, r, s, t) (simp append_assoc)
