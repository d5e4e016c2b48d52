-- Shares that nobody named fit the journal: `shares_fit` of the laws.
use Rattle.std.proofs.Common.{◌≡◌, ◌≤◌, ◌+◌, ◌*◌, ◌-◌, ◌/◌, ℕ, max, None, Some, sym, subst, inl, inr, arith}
use Rattle.std.proofs.lemmas.Bool.{cases_lt}
use Rattle.std.proofs.Math.Nat.{mul-div-le}
use Rattle.std.proofs.lemmas.Nat.{le-div}
use Rattle.wh_attend.specs.Shares.{SharesFit}

-- an equal part of a journal that has one entry for each is one at least, and all together are no more than it has
one_part : (journal among : ℕ) → among ≤ journal → among * max (journal / among) 1 ≤ journal
one_part journal among b = elim (cases_lt 0 among) [
  | inl some ↦ (
      let one : 1 ≤ journal / among = le-div 1 journal among some (omega arith) in
      let is : max (journal / among) 1 ≡ journal / among = omega (arith, one) in
      subst (λ k. among * k ≤ journal) (sym is) (mul-div-le journal among))
  | inr none ↦ (
      let zero_is : 0 ≡ among = omega arith in
      subst (λ n. n * max (journal / n) 1 ≤ journal) zero_is (omega arith))
]

pub fits : SharesFit
fits None journal named b = one_part journal named b
fits (Some every) journal named b =
    let part = max (journal / (named + 1)) 1 in
    let all : (named + 1) * part ≤ journal = one_part journal (named + 1) b in
    let sum : (named + 1) * part ≡ named * part + part = omega arith in
    let low : named * part + part ≤ journal = omega (arith, all, sum) in
    let rest : max (journal - named * part) part ≡ journal - named * part = omega (arith, low) in
    subst (λ k. named * part + k ≤ journal) (sym rest) (omega (arith, low))
