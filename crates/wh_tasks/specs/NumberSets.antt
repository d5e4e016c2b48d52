-- sets of numbers below a bound
use Rattle.std.specs.Prelude.{◌≡◌, ◌≢◌, ℕ, ◌<◌, ◌≤◌, List, length, slice_index_or}

-- what callers see of a set: its numbers, each once, the bound that all are below, and by how much that may rise
pub record Members : Type 0 where
  pub members : List ℕ
  pub bound : ℕ
  pub room : ℕ

-- All numbers below the bound stand in one list, those of the set first, and for each it is said where it stands.
pub record IsPlaced (numbers places : List ℕ) (count : ℕ) : Type 0 where
  pub within : count ≤ length numbers
  pub each : length places ≡ length numbers
  pub below : (k : ℕ) → k < length numbers → slice_index_or numbers k 0 < length numbers
  pub place : (k : ℕ) → k < length numbers → slice_index_or places (slice_index_or numbers k 0) 0 ≡ k
  pub placed : (n : ℕ) → n < length places → slice_index_or places n 0 < length numbers
  pub number : (n : ℕ) → n < length places → slice_index_or numbers (slice_index_or places n 0) 0 ≡ n

-- The number has come to the place, the number that stood there to where the first one was, and no other has moved.
pub record AreSwapped (numbers old : List ℕ) (number to : ℕ) (new : List ℕ) : Type 0 where
  pub each : length new ≡ length old
  pub there : slice_index_or new number 0 ≡ to
  pub other : slice_index_or new (slice_index_or numbers to 0) 0 ≡ slice_index_or old number 0
  pub others : (n : ℕ) → n ≢ number → n ≢ slice_index_or numbers to 0 → slice_index_or new n 0 ≡ slice_index_or old n 0
