-- What a contract sees of a claim.
use Rattle.std.specs.Prelude.{◌≡◌, ◌≢◌, ◌<◌, ◌≤◌, ℕ, List, [], ◌∷◌, ◌++◌}
use Rattle.std.specs.Arc.{arc_value}
use Rattle.wh_claims.specs.declared.bank.Bank.{Bank}
use Rattle.wh_claims.specs.Stake.{stake_found}
use Rattle.wh_claims.specs.declared.claim.Claim.{Claim}
use Rattle.wh_claims.specs.declared.claim.Refusal.{Refusal}
use Rattle.wh_claims.specs.declared.claim.Refusal.TheVariants.{Short, Raced}

-- the bank whose slots it has
abbrev pub claim_bank : Claim → Bank
claim_bank c = arc_value c.bank

-- how many slots it has
abbrev pub claim_amount : Claim → ℕ
claim_amount c = c.amount

-- the numbers of free slots that the claim's seat found, in order
abbrev pub claim_found : Claim → List ℕ
claim_found c = stake_found c.stake

-- Why nothing was claimed, by what the seat found before and after. Short: it looked once, and found too few. Raced: it
-- looked and found enough, and then found another number at the one exchange.
abbrev pub IsRefusal : ℕ → List ℕ → Refusal → List ℕ → Type 0
IsRefusal slots before (Short free) after = (free < slots) × (after ≡ before ++ free ∷ [])
IsRefusal slots before (Raced seen) after = (free : ℕ) × (slots ≤ free) × (seen ≢ free) × (after ≡ before ++ free ∷ seen ∷ [])
