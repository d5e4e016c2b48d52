-- What a contract sees of a seat that may have slots.
use Rattle.std.specs.Prelude.{◌≡◌, ℕ, List}
use Rattle.atomic_table.specs.Seated.{TableId}
use Rattle.wh_claims.specs.Bank.{bank_id, bank_total, seat_id}
use Rattle.wh_claims.specs.declared.bank.Bank.{Bank}
use Rattle.wh_claims.specs.declared.bank.BankSeat.{BankSeat}
use Rattle.wh_claims.specs.declared.stake.Stake.{Stake}

-- the bank of which it is a seat
abbrev pub stake_id : Stake → TableId
stake_id s = s.seat.table_id

-- the total of that bank
abbrev pub stake_total : Stake → ℕ
stake_total s = s.seat.me.0.total

-- how many slots are out with it
abbrev pub stake_slots : Stake → ℕ
stake_slots s = s.seat.me.0.slots

-- the numbers of free slots that its steps found, in order
abbrev pub stake_found : Stake → List ℕ
stake_found s = s.seat.me.0.found

-- it is a seat of this bank
abbrev pub IsStakeIn : Stake → Bank → Type 0
IsStakeIn s b = (stake_id s ≡ bank_id b) × (stake_total s ≡ bank_total b)

-- it is this seat
abbrev pub IsOf : Stake → BankSeat → Type 0
IsOf s t = (stake_id s ≡ seat_id t) × (stake_total s ≡ t.seat.me.0.total)
