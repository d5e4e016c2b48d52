-- intervals that are noted, each linked to the one before it in its slot
use Rattle.std.specs.Prelude.{◌≡◌, ◌≢◌, ℕ, ◌+◌, ◌-◌, ◌*◌, ◌/◌, ◌%◌, ◌^◌, ◌<◌, ◌≤◌, Option, Some, None, List, [], ◌∷◌, length, cond, slice_index_or, bit_and}
use Rattle.wh_intervals.specs.Closings.{interval_eq}
use Rattle.wh_intervals.specs.declared.interval.Interval.{Interval}
use Rattle.wh_intervals.specs.declared.intervals.Noted.{Noted}
use Rattle.wh_intervals.specs.declared.known.Known.{Known}

-- a number of an interval
abbrev pub number_of : Interval → ℕ
number_of i = ((i.until + i.leg) % 2 ^ 32) * 2 ^ 32 + (i.cell.y * 2 ^ 16 + i.cell.x)

-- a number that spreads intervals
unfoldable pub spread : Interval → ℕ
spread i = number_of i * 11400714819323198485 % 2 ^ 64 / 2 ^ 32

-- the slot of an interval, among a number of slots
abbrev pub slot : ℕ → Interval → ℕ
slot size i = bit_and (spread i) (size - 1)

-- what is noted at a place; past the end it is of no interval that is met
abbrev pub noted_at : List Noted → ℕ → Noted
noted_at noted k = slice_index_or noted k (record { interval = record { leg = 0; cell = record { x = 0; y = 0 }; until = 0 }; known = record { newest = 0; since = None }; before = 0 })

abbrev pub interval_at : List Noted → ℕ → Interval
interval_at noted k = (noted_at noted k).interval

-- the first one, unless there is none
abbrev pub or_else : Option Known → Option Known → Option Known
or_else None other = other
or_else (Some k) other = Some k

-- what is known of an interval by the last that is noted of it
abbrev pub known_in : List Noted → Interval → Option Known
known_in [] i = None
known_in (n ∷ noted) i = or_else (known_in noted i) (cond (interval_eq n.interval i) (Some n.known) None)

-- of the first n the last one in the slot is before the link, none where that is 0
pub record IsTop (slot : Interval → ℕ) (noted : List Noted) (n at link : ℕ) : Type 0 where
  pub within : link ≤ n
  pub here : 0 < link → slot (interval_at noted (link - 1)) ≡ at
  pub last : (k : ℕ) → link ≤ k → k < n → slot (interval_at noted k) ≢ at

-- of the first n each slot tells the last one there, and each of them the one before it
pub record IsLinked (slot : Interval → ℕ) (heads : List ℕ) (noted : List Noted) (n : ℕ) : Type 0 where
  pub tops : (s : ℕ) → s < length heads → IsTop slot noted n s (slice_index_or heads s 0)
  pub links : (j : ℕ) → j < n → IsTop slot noted j (slot (interval_at noted j)) (noted_at noted j).before

-- none of them is of the interval
abbrev pub AreOthers : List Noted → Interval → Type 0
AreOthers noted i = (k : ℕ) → k < length noted → interval_at noted k ≢ i

-- the one at the place is the last one of the interval
pub record IsLatest (noted : List Noted) (i : Interval) (place : ℕ) : Type 0 where
  pub within : place < length noted
  pub is : interval_at noted place ≡ i
  pub last : (k : ℕ) → place < k → k < length noted → interval_at noted k ≢ i

-- what is noted, without the link
abbrev pub kept : Noted → Interval × Known
kept n = (n.interval, n.known)

-- the same, but for what is known
abbrev pub with_known : Noted → Known → Noted
with_known n known = record { interval = n.interval; known = known; before = n.before }
