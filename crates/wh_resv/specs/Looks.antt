-- what stays at a place tell of the others
use Rattle.std.specs.Prelude.{◌≡◌, ◌≢◌, ℕ, ◌+◌, ◌<◌, ◌≤◌, ◌⊎◌, List, length}
use Rattle.wh_grid.specs.declared.cell.Cell.{Cell}
use Rattle.wh_path.specs.Paths.{at, path_of}
use Rattle.wh_timetable.specs.declared.stay.Stay.{Stay}
use Rattle.wh_timetable.specs.Stays.{stay_at, endless}

-- the stay takes time, and is one of another at the cell
pub record IsOthers (stay : Stay) (except : ℕ) (c : Cell) : Type 0 where
  pub other : stay.agent ≢ except
  pub here : stay.cell ≡ c
  pub lasting : stay.from < stay.until

-- the stay takes in the time
pub record IsDuring (stay : Stay) (t : ℕ) : Type 0 where
  pub since : stay.from ≤ t
  pub still : t < stay.until

-- by none of the stays is another at the cell at the time
abbrev pub IsFreeFor : List Stay → ℕ → Cell → ℕ → Type 0
IsFreeFor stays except c t = (j : ℕ) → j < length stays → IsOthers (stay_at stays j) except c → IsDuring (stay_at stays j) t → ⊥

-- one of the stays, of another at the cell, takes in the time, and is over at the end
pub record IsEndAt (stays : List Stay) (except : ℕ) (c : Cell) (t end : ℕ) : Type 0 where
  pub place : ℕ
  pub within : place < length stays
  pub others : IsOthers (stay_at stays place) except c
  pub during : IsDuring (stay_at stays place) t
  pub over : (stay_at stays place).until ≡ end

-- no stay of another at the cell begins between the times, and one does at the second, if that is one
pub record IsNextStart (stays : List Stay) (except : ℕ) (c : Cell) (t start : ℕ) : Type 0 where
  pub least : (j : ℕ) → j < length stays → IsOthers (stay_at stays j) except c → t < (stay_at stays j).from → start ≤ (stay_at stays j).from
  pub bound : start ≤ endless
  pub one : (start ≡ endless) ⊎ ((j : ℕ) × (j < length stays) × IsOthers (stay_at stays j) except c × (t < start) × ((stay_at stays j).from ≡ start))

-- each stay of another at the cell is over by then, and one no sooner, if there is one
pub record IsLastEnd (stays : List Stay) (except : ℕ) (c : Cell) (end : ℕ) : Type 0 where
  pub most : (j : ℕ) → j < length stays → IsOthers (stay_at stays j) except c → (stay_at stays j).until ≤ end
  pub one : (end ≡ 0) ⊎ ((j : ℕ) × (j < length stays) × IsOthers (stay_at stays j) except c × ((stay_at stays j).until ≡ end))

-- by the stay another is at the cell at the second time, or at the first one, and then at the other cell k + 1 steps from now
abbrev pub Bars : List (List Cell) → Stay → ℕ → Cell → Cell → ℕ → ℕ → ℕ → Type 0
Bars paths stay except from to k time next =
    IsOthers stay except to × (IsDuring stay next ⊎ (IsDuring stay time × (at (path_of paths stay.agent) (k + 1) ≡ from)))
