-- how late a path may be
use Rattle.std.specs.Prelude.{ℕ, ◌+◌, ◌*◌, ◌≤◌, List}
use Rattle.wh_grid.specs.declared.cell.Cell.{Cell}
use Rattle.wh_grid.specs.Grids.{Floor, passable_cells}
use Rattle.wh_resv.specs.Others.{Others}
use Rattle.wh_path.specs.Paths.{horizon, last_index}
use Rattle.wh_search.specs.Deliveries.{IsDelivery, IsLawful}
use Rattle.wh_search.specs.Parkings.{IsParking}
use Rattle.wh_search.specs.Tours.{IsTour, longest_tour}

-- none of the paths that serve ends before this one, less the slack
abbrev pub IsLateAtMost : (List Cell → Type 0) → ℕ → List Cell → Type 0
IsLateAtMost Serves slack path = (other : List Cell) → Serves other → last_index path ≤ last_index other + slack

-- a tour within the bound that is late by no more than the slack
pub record IsLateTour (g : Floor) (others : Others) (loc : Cell) (via : List Cell) (ends : List Cell) (slack : ℕ) (p : List Cell) : Type 0 where
  pub is_tour : IsTour g others loc via ends p
  pub bounded : last_index p ≤ longest_tour g others via
  pub late : IsLateAtMost (IsTour g others loc via ends) slack p

-- a lawful path that is late by no more than the slack
pub record IsLateDelivery (g : Floor) (others : Others) (loc : Cell) (stops : List Cell) (slack : ℕ) (p : List Cell) : Type 0 where
  pub lawful : IsLawful g others loc stops p
  pub late : IsLateAtMost (IsDelivery g others loc stops) slack p

-- a path that parks, within the bound, and is late by no more than the slack
pub record IsLateParking (g : Floor) (others : Others) (loc : Cell) (allowed : List Cell) (slack : ℕ) (p : List Cell) : Type 0 where
  pub is_parking : IsParking g others loc allowed p
  pub bounded : last_index p ≤ horizon others.paths + 2 * passable_cells g
  pub late : IsLateAtMost (IsParking g others loc allowed) slack p
