-- stays in places, of which each cell has one, and several cells may have the same
use Rattle.std.specs.Prelude.{◌≡◌, ◌≢◌, ℕ, ◌+◌, ◌-◌, ◌*◌, ◌/◌, ◌%◌, ◌^◌, ◌<◌, ◌≤◌, ◌↔◌, ◌⊎◌, List, [], length, slice_index_or, bit_and}
use Rattle.wh_grid.specs.declared.cell.Cell.{Cell}
use Rattle.wh_path.specs.Paths.{at}
use Rattle.wh_timetable.specs.declared.stay.Stay.{Stay}
use Rattle.wh_timetable.specs.Stays.{IsThere}

-- a number of the cell that no other cell has
abbrev pub number_of : Cell → ℕ
number_of c = c.x + c.y * 65536

-- a number that spreads cells
unfoldable pub start_of : Cell → ℕ
start_of c = number_of c * 1540483477 % 2 ^ 32 / 2 ^ 15

-- the place of the cell among n
abbrev pub place : ℕ → Cell → ℕ
place size c = bit_and (start_of c) (size - 1)

-- the stays at the place of the cell
abbrev pub stays_for : List (List Stay) → Cell → List Stay
stays_for places c = slice_index_or places (place (length places) c) []

-- at each later time the same agents are at each cell
abbrev pub AreSame : ℕ → List (List Stay) → List (List Stay) → Type 0
AreSame now old new = (i : ℕ) (c : Cell) (t : ℕ) → now ≤ t → IsThere (stays_for new c) i c t ↔ IsThere (stays_for old c) i c t

-- at each later time the same others are at each cell, and the agent where it was at most
pub record IsLeft (agent now : ℕ) (old new : List (List Stay)) : Type 0 where
  pub others : (i : ℕ) (c : Cell) (t : ℕ) → now ≤ t → i ≢ agent → IsThere (stays_for new c) i c t ↔ IsThere (stays_for old c) i c t
  pub fewer : (c : Cell) (t : ℕ) → now ≤ t → IsThere (stays_for new c) agent c t → IsThere (stays_for old c) agent c t

-- the agent is at the cell at a time before the bound, where its path begins now
pub record IsPassing (path : List Cell) (agent now bound i : ℕ) (c : Cell) (t : ℕ) : Type 0 where
  pub who : i ≡ agent
  pub soon : t < bound
  pub there : at path (t - now) ≡ c

-- the path of the agent up to the bound is there besides
abbrev pub IsNoted : List Cell → ℕ → ℕ → ℕ → List (List Stay) → List (List Stay) → Type 0
IsNoted path agent now bound old new =
    (i : ℕ) (c : Cell) (t : ℕ) → now ≤ t → IsThere (stays_for new c) i c t ↔ (IsThere (stays_for old c) i c t ⊎ IsPassing path agent now bound i c t)
