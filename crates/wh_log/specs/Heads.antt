-- Reading the first lines and the last. Private, as the reading of entries.
use Rattle.std.specs.Prelude.{ℕ, ◌&&◌, List, [], ◌∷◌, length, Option, Some, None, nat_le, cond, codes}
use Rattle.std.specs.Str.{bytes_eq}
use Rattle.wh_words.specs.Numerals.{numeral_of}
use Rattle.wh_log.specs.Reading.{◌>>=◌, literal_at, at_end, small_at, clock_at}
use Rattle.wh_log.specs.declared.version.Version.{Version}
use Rattle.wh_log.specs.declared.version.Version.TheVariants.{One, Two}

-- the version that the first line tells
abbrev pub version_of : List ℕ → Option Version
version_of line = cond (bytes_eq line (codes "wlog 1")) (Some One) (cond (bytes_eq line (codes "wlog 2")) (Some Two) None)

-- a number from 2 to 64
abbrev pub slot_of : List ℕ → Option ℕ
slot_of word = numeral_of 9 word >>= λ n. cond (nat_le 2 n && nat_le n 64) (Some n) None

-- slots, to the end
unfoldable pub slots_of : List (List ℕ) → Option (List ℕ)
slots_of [] = Some []
slots_of (word ∷ words) = do
  slot ← slot_of word
  slots ← slots_of words
  Some (slot ∷ slots)

-- 1 to 256 of them
abbrev pub few_of : List ℕ → Option (List ℕ)
few_of slots = cond (nat_le 1 (length slots) && nat_le (length slots) 256) (Some slots) None

-- the second line: the clock and the slots
unfoldable pub start_of : List (List ℕ) → Option (ℕ × List ℕ)
start_of words = do
  before_clock ← literal_at (codes "start") words
  clock ← clock_at before_clock
  before_slots ← literal_at (codes "slots") clock.1
  all ← slots_of before_slots
  slots ← few_of all
  Some (clock.0, slots)

-- the last line: the count
unfoldable pub end_of : List (List ℕ) → Option ℕ
end_of words = do
  before_count ← literal_at (codes "end") words
  count ← small_at before_count
  at_end count.1 count.0
