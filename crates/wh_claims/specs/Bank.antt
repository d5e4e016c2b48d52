-- What a contract sees of a bank and its seats.
use Rattle.std.specs.Prelude.{◌≡◌, ℕ, List}
use Rattle.atomic_table.specs.Seated.{TableId}
use Rattle.wh_claims.specs.declared.bank.Bank.{Bank}
use Rattle.wh_claims.specs.declared.bank.BankSeat.{BankSeat}

-- which bank it is
abbrev pub bank_id : Bank → TableId
bank_id b = b.table.shared.table_id

-- how many slots it was opened with
abbrev pub bank_total : Bank → ℕ
bank_total b = b.table.shared.key

-- the bank of which it is a seat
abbrev pub seat_id : BankSeat → TableId
seat_id s = s.seat.table_id

-- it is a seat of this bank
abbrev pub Belongs : BankSeat → Bank → Type 0
Belongs s b = (seat_id s ≡ bank_id b) × (s.seat.me.0.total ≡ bank_total b)

-- the numbers of free slots that the seat's steps found, in order
abbrev pub found : BankSeat → List ℕ
found s = s.seat.me.0.found
