-- Reading words from left to right. Private: what it finds is said by Spelling and Ranges.
use Rattle.std.specs.Prelude.{◌≡◌, ℕ, Bool, ◌+◌, ◌-◌, List, [], ◌∷◌, take, drop, Option, Some, None, Result, Ok, Err, nat_le, ◌==◌, cond, position}
use Rattle.std.specs.Str.{bytes_eq}
use Rattle.wh_text.specs.Names.{name_of}
use Rattle.wh_words.specs.Numerals.{numeral_of, wide_numeral_of}
use Rattle.wh_grid.specs.declared.cell.Cell.{Cell}
use Rattle.wh_log.specs.declared.entry_fault.EntryFault.{EntryFault}
use Rattle.wh_log.specs.declared.entry_fault.EntryFault.TheVariants as faults

infixl 10 ◌>>=◌
-- one reading after another
abbrev pub ◌>>=◌ : {A B : Type 0} → Option A → (A → Option B) → Option B
(Some x) >>= f = f x
None >>= f = None

-- What a function returned is what reading gives, unless memory ran out.
abbrev pub Fails : {Y : Type 0} → EntryFault → Option Y → Type 0
Fails faults.NoMemory read = Unit {0}
Fails faults.Form read = read ≡ None

-- what a function gave and the words that it left are what reading gives
abbrev pub Reads : {X Y : Type 0} → (X → Y) → Result X EntryFault → List (List ℕ) → Option (Y × List (List ℕ)) → Type 0
Reads view (Ok x) after read = read ≡ Some (view x, after)
Reads view (Err e) after read = Fails e read

-- what a function gave is what reading gives
abbrev pub Gives : {X Y : Type 0} → (X → Y) → Result X EntryFault → Option Y → Type 0
Gives view (Ok x) read = read ≡ Some (view x)
Gives view (Err e) read = Fails e read

-- the words behind a word that is this one
abbrev pub literal_at : List ℕ → List (List ℕ) → Option (List (List ℕ))
literal_at text [] = None
literal_at text (word ∷ words) = cond (bytes_eq word text) (Some words) None

-- a value, where no word is left
abbrev pub at_end : {A : Type 0} → List (List ℕ) → A → Option A
at_end [] x = Some x
at_end (word ∷ words) x = None

-- the first word, read, and the words behind it
abbrev pub first_at : {A : Type 0} → (List ℕ → Option A) → List (List ℕ) → Option (A × List (List ℕ))
first_at read [] = None
first_at read (word ∷ words) = read word >>= λ x. Some (x, words)

-- a number of at most 9 digits
abbrev pub small_at : List (List ℕ) → Option (ℕ × List (List ℕ))
small_at words = first_at (numeral_of 9) words

-- a number of at most 10 digits
abbrev pub long_at : List (List ℕ) → Option (ℕ × List (List ℕ))
long_at words = first_at (numeral_of 10) words

-- a clock
abbrev pub clock_at : List (List ℕ) → Option (ℕ × List (List ℕ))
clock_at words = long_at words >>= λ n. cond (nat_le n.0 1000000000) (Some n) None

-- a number of 64 bits
abbrev pub wide_at : List (List ℕ) → Option (ℕ × List (List ℕ))
wide_at words = first_at wide_numeral_of words

-- a name
abbrev pub name_at : List (List ℕ) → Option (List ℕ × List (List ℕ))
name_at words = first_at name_of words

-- ---- cells
abbrev pub is_comma : ℕ → Bool
is_comma b = b == 44

-- a number of at most 4095
abbrev pub coordinate_of : List ℕ → Option ℕ
coordinate_of word = numeral_of 4 word >>= λ n. cond (nat_le n 4095) (Some n) None

-- two coordinates, with a comma between
unfoldable pub cell_of : List ℕ → Option Cell
cell_of word = do
  i ← position is_comma word
  x ← coordinate_of (take i word)
  y ← coordinate_of (drop (i + 1) word)
  Some (record { x = x; y = y })

-- how many steps lie between two cells
abbrev pub apart : Cell → Cell → ℕ
apart a b = ((a.x - b.x) + (b.x - a.x)) + ((a.y - b.y) + (b.y - a.y))

-- a cell that may follow another
abbrev pub next_cell_of : Cell → List ℕ → Option Cell
next_cell_of last word = cell_of word >>= λ cell. cond (nat_le (apart last cell) 1) (Some cell) None

-- the cells behind one, to the end
unfoldable pub cells_of : Cell → List (List ℕ) → Option (List Cell)
cells_of last [] = Some []
cells_of last (word ∷ words) = do
  cell ← next_cell_of last word
  cells ← cells_of cell words
  Some (cell ∷ cells)

-- the cells to the end, one at least
unfoldable pub path_of : List (List ℕ) → Option (List Cell)
path_of [] = None
path_of (word ∷ words) = do
  cell ← cell_of word
  cells ← cells_of cell words
  Some (cell ∷ cells)
