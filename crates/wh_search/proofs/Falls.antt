-- the moves by which an estimate falls, as the digits of a number
use Rattle.std.proofs.Common.{◌≡◌, ℕ, ◌+◌, ◌-◌, ◌*◌, ◌/◌, ◌%◌, ◌^◌, ◌<◌, ◌≤◌, ◌∙◌, inl, inr, refl, sym, ap, subst, suc, zero, arith}
use Rattle.std.proofs.lemmas.Bool.{cases_lt}
use Rattle.std.proofs.lemmas.Nat.Bits.{bit_at-zero, bit_at_cat_low, bit_at_cat_high, bit_at_above}
use Rattle.std.proofs.lemmas.Nat.{div-add-mod', pow_pos}
use Rattle.std.proofs.Math.Nat.{mod-lt}
use Rattle.wh_search.specs.Ways.{IsLastBefore}

pow_few : (n : ℕ) → n ≤ 5 → 1 * 2 ^ n % 256 ≡ 2 ^ n
pow_few zero few = refl
pow_few (suc zero) few = refl
pow_few (suc (suc zero)) few = refl
pow_few (suc (suc (suc zero))) few = refl
pow_few (suc (suc (suc (suc zero)))) few = refl
pow_few (suc (suc (suc (suc (suc zero))))) few = refl
pow_few (suc (suc (suc (suc (suc (suc n)))))) few = absurd (omega arith)

low_digit : (m b i : ℕ) → i < b → m / 2 ^ i % 2 ≡ m % 2 ^ b / 2 ^ i % 2
low_digit m b i less = ap (λ (n : ℕ). n / 2 ^ i % 2) (sym (div-add-mod' m (2 ^ b))) ∙ bit_at_cat_low (m / 2 ^ b) b (m % 2 ^ b) i less

top_digit : (few j : ℕ) → 2 ^ j ≤ few → few < 2 ^ suc j → few / 2 ^ j % 2 ≡ 1
top_digit few j least most =
    let e : few ≡ 1 * 2 ^ j + (few - 2 ^ j) = omega arith in
    let none : j - j ≡ 0 = omega arith in
    ap (λ (n : ℕ). n / 2 ^ j % 2) e ∙ bit_at_cat_high 1 j (few - 2 ^ j) j (omega arith) (omega arith) ∙ ap (λ (k : ℕ). 1 / 2 ^ k % 2) none

-- the highest digit of what is below
pub last_of : (m b j few : ℕ) → few ≡ m % (1 * 2 ^ b % 256) → b ≤ 5 → 2 ^ j ≤ few → few < 2 ^ suc j → IsLastBefore m b j
last_of m b j few by five least most =
    let is : few ≡ m % 2 ^ b = by ∙ ap (λ n. m % n) (pow_few b five) in
    let top = top_digit few j least most in
    let below : few < 2 ^ b = subst (λ n. n < 2 ^ b) (sym is) (mod-lt m (pow_pos b)) in
    let less : j < b = elim (cases_lt j b) [ inl x ↦ x | inr y ↦ absurd (let z = bit_at_above few b j below y in omega arith) ] in
    record {
      less = less;
      among = low_digit m b j less ∙ ap (λ (n : ℕ). n / 2 ^ j % 2) (sym is) ∙ top;
      later = λ i after before. low_digit m b i before ∙ ap (λ (n : ℕ). n / 2 ^ i % 2) (sym is) ∙ bit_at_above few (suc j) i most (omega arith);
    }

pub none_of : (m b few : ℕ) → few ≡ m % (1 * 2 ^ b % 256) → b ≤ 5 → few ≡ 0 → (i : ℕ) → i < b → m / 2 ^ i % 2 ≡ 0
none_of m b few by five none i less = low_digit m b i less ∙ ap (λ (n : ℕ). n / 2 ^ i % 2) (ap (λ n. m % n) (sym (pow_few b five)) ∙ sym by ∙ none) ∙ bit_at-zero i
