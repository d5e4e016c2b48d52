-- when a tour is at its stops
use Rattle.std.specs.Prelude.{◌≡◌, ℕ, ◌<◌, ◌≤◌, List, length}
use Rattle.wh_grid.specs.declared.cell.Cell.{Cell}
use Rattle.wh_path.specs.Paths.{at, last_index, VisitsInOrder}
use Rattle.wh_search.specs.declared.errand.Errand.{Errand}
use Rattle.wh_search.specs.Tours.{IsTour}

-- the path is at the cell at k or later, and at the stops from the l-th on no sooner than there
pub record ComesNoSooner (via q : List Cell) (l : ℕ) (c : Cell) (k : ℕ) : Type 0 where
  pub visits : VisitsInOrder q via
  pub time : ℕ
  pub late : k ≤ time
  pub here : at q time ≡ c
  pub before : (i : ℕ) → l ≤ i → i < length via → time ≤ visits.when i
  pub in_time : (i : ℕ) → visits.when i ≤ last_index q
  pub by_end : time ≤ last_index q

-- no tour comes to the cell, before it goes on to the stops from the l-th on, sooner than at k
abbrev pub NoneComesSooner : Errand → ℕ → Cell → ℕ → Type 0
NoneComesSooner e l c k = (q : List Cell) → IsTour e.grid.now e.others.now e.loc e.via.now e.ends.now q → ComesNoSooner e.via.now q l c k

-- the same errand, but for the time before which no tour ends
abbrev pub with_least : Errand → ℕ → Errand
with_least e least =
    record { grid = e.grid; others = e.others; loc = e.loc; via = e.via; ends = e.ends; guide = e.guide; first = e.first; horizon = e.horizon; limit = e.limit; soonest = e.soonest; exact = e.exact; least = least }
