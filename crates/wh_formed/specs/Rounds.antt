-- marks by numbers of rounds
use Rattle.std.specs.Prelude.{◌≡◌, ℕ, ◌==◌, ◌⊎◌, List, Bool, map, length, slice_index_or}

-- for each place the number of the round that marked it last, and the number of the round that goes on
pub record Rounds : Type 0 where
  pub numbers : List ℕ
  pub current : ℕ

-- the places that were marked in the round that goes on
abbrev pub marks_of : Rounds → List Bool
marks_of r = map (λ n. n == r.current) r.numbers

-- within a round places were marked, and nothing else was written
pub record Marks (older newer : Rounds) : Type 0 where
  pub size : length newer.numbers ≡ length older.numbers
  pub current : newer.current ≡ older.current
  pub others : (i : ℕ) → (slice_index_or newer.numbers i 0 ≡ slice_index_or older.numbers i 0) ⊎ (slice_index_or newer.numbers i 0 ≡ older.current)
