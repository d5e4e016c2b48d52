-- until when a cell stays vacant, and when it is so again
use Rattle.std.specs.Prelude.{◌≡◌, ℕ, ◌+◌, ◌<◌, ◌≤◌, List}
use Rattle.wh_grid.specs.declared.cell.Cell.{Cell}
use Rattle.wh_resv.specs.Calls.{IsVacant}

-- none of the others is at the cell at any time from k to u
pub record IsClear (paths : List (List Cell)) (c : Cell) (k u : ℕ) : Type 0 where
  pub vacant : (j : ℕ) → k ≤ j → j ≤ u → IsVacant paths c j

-- u is the last time up to which the cell is vacant at each time from k on
pub record IsLastFree (paths : List (List Cell)) (c : Cell) (k u : ℕ) : Type 0 where
  pub from : k ≤ u
  pub clear : IsClear paths c k u
  pub taken : IsVacant paths c (u + 1) → ⊥

-- u is the last time, as far as a limit, up to which the cell is vacant at each time from k on
pub record IsFreeWithin (paths : List (List Cell)) (c : Cell) (k limit u : ℕ) : Type 0 where
  pub from : k ≤ u
  pub in_time : u ≤ limit
  pub clear : IsClear paths c k u
  pub taken : u < limit → IsVacant paths c (u + 1) → ⊥

-- f is the first time from k on at which the cell is vacant
pub record IsNextFree (paths : List (List Cell)) (c : Cell) (k f : ℕ) : Type 0 where
  pub from : k ≤ f
  pub vacant : IsVacant paths c f
  pub taken : (j : ℕ) → k ≤ j → j < f → IsVacant paths c j → ⊥

-- the cell is taken at each time from k up to before f, and where that is at none it is vacant at k
pub record IsTakenUntil (paths : List (List Cell)) (c : Cell) (k f : ℕ) : Type 0 where
  pub from : k ≤ f
  pub taken : (j : ℕ) → k ≤ j → j < f → IsVacant paths c j → ⊥
  pub vacant : f ≡ k → IsVacant paths c k

-- the cell is vacant at no time from k on
abbrev pub IsNeverFree : List (List Cell) → Cell → ℕ → Type 0
IsNeverFree paths c k = (j : ℕ) → k ≤ j → IsVacant paths c j → ⊥
