-- what the calls on reservations ask and tell
use Rattle.std.specs.Prelude.{◌≡◌, ◌≢◌, ℕ, ◌+◌, List, All}
use Rattle.wh_grid.specs.declared.cell.Cell.{Cell}
use Rattle.wh_path.specs.Paths.{at}

-- none of the others is at the cell at time k
abbrev pub IsVacant : List (List Cell) → Cell → ℕ → Type 0
IsVacant paths c k = All (λ q. at q k ≢ c) paths

-- none goes from the second cell to the first between k and k + 1
abbrev pub NoneExchanges : List (List Cell) → Cell → Cell → ℕ → Type 0
NoneExchanges paths from to k = All (λ q. at q k ≡ to → at q (k + 1) ≢ from) paths
