-- Reading words from left to right. Private: what it finds is said by Spelling and Ranges.
use Rattle.std.specs.Prelude.{◌≡◌, ℕ, Bool, true, false, ◌+◌, ◌^◌, List, [], ◌∷◌, take, drop, length, Option, Some, None, Result, Ok, Err, nat_le, nat_lt, ◌==◌, ◌&&◌, cond, codes, position}
use Rattle.std.specs.Str.{bytes_eq}
use Rattle.wh_words.specs.Numerals.{numeral_of, wide_numeral_of}
use Rattle.wh_grid.specs.declared.cell.Cell.{Cell}
use Rattle.wh_log.specs.Reading.{◌>>=◌, literal_at, at_end, first_at, small_at, clock_at, wide_at}
use Rattle.wh_front.specs.declared.form_fault.FormFault.{FormFault}
use Rattle.wh_front.specs.declared.form_fault.FormFault.TheVariants as faults
use Rattle.wh_front.specs.declared.before.Before.{Before}
use Rattle.wh_front.specs.declared.before.Before.TheVariants.{Nothing, Log}
use Rattle.wh_front.specs.declared.rules.Rules.{Rules}
use Rattle.wh_front.specs.declared.rules.Kind.{Kind}
use Rattle.wh_front.specs.declared.rules.Kind.TheVariants.{Whole, Stopped, Edited}
use Rattle.wh_front.specs.declared.front.Count.{Count}
use Rattle.wh_front.specs.declared.front.Seat.{Seat}
use Rattle.wh_front.specs.declared.line.Line.{Line}
use Rattle.wh_front.specs.declared.line.Line.TheVariants as lines
use Rattle.wh_front.specs.Sums.{sum_of}

-- What a function returned is what reading gives, unless memory ran out.
abbrev pub Fails : {Y : Type 0} → FormFault → Option Y → Type 0
Fails faults.NoMemory read = Unit {0}
Fails faults.Form read = read ≡ None

-- what a function gave and the words that it left are what reading gives
abbrev pub Reads : {X Y : Type 0} → (X → Y) → Result X FormFault → List (List ℕ) → Option (Y × List (List ℕ)) → Type 0
Reads view (Ok x) after read = read ≡ Some (view x, after)
Reads view (Err e) after read = Fails e read

-- what a function gave is what reading gives
abbrev pub Gives : {X Y : Type 0} → (X → Y) → Result X FormFault → Option Y → Type 0
Gives view (Ok x) read = read ≡ Some (view x)
Gives view (Err e) read = Fails e read

-- a value that passes a test
abbrev pub if_so : {A : Type 0} → Bool → A → Option A
if_so holds x = cond holds (Some x) None

-- ---- words
abbrev pub is_byte : ℕ → ℕ → Bool
is_byte byte b = b == byte

-- what stands before and behind the first such byte
unfoldable pub halves_of : ℕ → List ℕ → Option (List ℕ × List ℕ)
halves_of byte word = do
  i ← position (is_byte byte) word
  Some (take i word, drop (i + 1) word)

-- a number below 65536
abbrev pub coordinate_of : List ℕ → Option ℕ
coordinate_of word = numeral_of 5 word >>= λ n. if_so (nat_lt n 65536) n

-- two coordinates, with a comma between
unfoldable pub cell_of : List ℕ → Option Cell
cell_of word = do
  halves ← halves_of 44 word
  x ← coordinate_of halves.0
  y ← coordinate_of halves.1
  Some (record { x = x; y = y })

-- cells, to the end
unfoldable pub cells_of : List (List ℕ) → Option (List Cell)
cells_of [] = Some []
cells_of (word ∷ words) = do
  cell ← cell_of word
  cells ← cells_of words
  Some (cell ∷ cells)

-- a number below 2 ^ 32
abbrev pub slots_of : List ℕ → Option ℕ
slots_of word = numeral_of 10 word >>= λ n. if_so (nat_lt n (2 ^ 32)) n

-- a number below 64
abbrev pub caller_of : List ℕ → Option ℕ
caller_of word = numeral_of 9 word >>= λ n. if_so (nat_lt n 64) n

-- a number of 64 bits, from 1 on
abbrev pub entries_of : List ℕ → Option ℕ
entries_of word = wide_numeral_of word >>= λ n. if_so (nat_le 1 n) n

-- ---- the first lines
-- the log before, behind its number
unfoldable pub log_of : ℕ → List (List ℕ) → Option Before
log_of number words = do
  bytes ← wide_at words
  sum ← first_at sum_of bytes.1
  at_end sum.1 (Log number bytes.0 sum.0)

unfoldable pub before_of : List (List ℕ) → Option Before
before_of words = do
  number ← small_at words
  cond (number.0 == 0) (at_end number.1 Nothing) (log_of number.0 number.1)

-- what follows `age`
unfoldable pub age_of : Bool → List (List ℕ) → Option Rules
age_of homes words = do
  age ← clock_at words
  some ← if_so (nat_le 1 age.0) age.0
  at_end age.1 (record { homes = homes; age = Some some })

-- what follows `ends homes`
unfoldable pub homes_of : List (List ℕ) → Option Rules
homes_of [] = Some (record { homes = true; age = None })
homes_of (word ∷ words) = cond (bytes_eq word (codes "age")) (age_of true words) None

-- what follows `ends`
unfoldable pub ends_of : List (List ℕ) → Option Rules
ends_of words = do
  rest ← literal_at (codes "homes") words
  homes_of rest

unfoldable pub rules_of : List (List ℕ) → Option Rules
rules_of [] = None
rules_of (word ∷ words) = cond (bytes_eq word (codes "ends")) (ends_of words) (cond (bytes_eq word (codes "age")) (age_of false words) None)

abbrev pub closed_of : List ℕ → Option Bool
closed_of word = cond (bytes_eq word (codes "open")) (Some false) (cond (bytes_eq word (codes "closed")) (Some true) None)

abbrev pub kind_of : List ℕ → Option Kind
kind_of word =
    cond (bytes_eq word (codes "whole")) (Some Whole) (cond (bytes_eq word (codes "stopped")) (Some Stopped) (cond (bytes_eq word (codes "edited")) (Some Edited) None))

unfoldable pub state_of : List (List ℕ) → Option Line
state_of words = do
  clock ← clock_at words
  closed ← first_at closed_of clock.1
  kind ← first_at kind_of closed.1
  at_end kind.1 (lines.State clock.0 closed.0 kind.0)

-- a caller and its entries, with a colon between
unfoldable pub count_of : List ℕ → Option Count
count_of word = do
  halves ← halves_of 58 word
  caller ← caller_of halves.0
  entries ← entries_of halves.1
  Some (record { caller = caller; entries = entries })

-- of a caller that is not below the least
abbrev pub next_count_of : ℕ → List ℕ → Option Count
next_count_of least word = count_of word >>= λ count. if_so (nat_le least count.caller) count

-- counts by rising callers, to the end
unfoldable pub counts_of : ℕ → List (List ℕ) → Option (List Count)
counts_of least [] = Some []
counts_of least (word ∷ words) = do
  count ← next_count_of least word
  counts ← counts_of (count.caller + 1) words
  Some (count ∷ counts)

-- ---- agents
unfoldable pub agents_of : List (List ℕ) → Option ℕ
agents_of words = do
  count ← small_at words
  agents ← if_so (nat_le 1 count.0 && nat_le count.0 256) count.0
  at_end count.1 agents

-- cells to the end, one at least
unfoldable pub path_of : List (List ℕ) → Option (List Cell)
path_of words = do
  cells ← cells_of words
  if_so (nat_le 1 (length cells)) cells

unfoldable pub seat_of : List (List ℕ) → Option Seat
seat_of words = do
  before_slots ← literal_at (codes "slots") words
  slots ← first_at slots_of before_slots
  before_path ← literal_at (codes "path") slots.1
  path ← path_of before_path
  Some (record { slots = slots.0; path = path })
