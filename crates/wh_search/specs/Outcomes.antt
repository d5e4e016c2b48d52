-- what a look for a straight tour tells
use Rattle.std.specs.Prelude.{ℕ, ◌<◌, List}
use Rattle.wh_grid.specs.declared.cell.Cell.{Cell}
use Rattle.wh_grid.specs.Grids.{Floor}
use Rattle.wh_resv.specs.Others.{Others}
use Rattle.wh_path.specs.Paths.{last_index}
use Rattle.wh_search.specs.declared.straight.Looked.{Looked}
use Rattle.wh_search.specs.declared.straight.Looked.TheVariants.{Found, Longer, GivenUp}
use Rattle.wh_search.specs.Tours.{IsTour, IsLeastTour}

-- what is found is a least tour; where each is longer, each has more steps than are estimated; where it was given up, this is why
abbrev pub IsOutcome : Floor → Others → Cell → List Cell → List Cell → ℕ → Type 0 → Looked → Type 0
IsOutcome g others loc via ends whole why (Found p) = IsLeastTour g others loc via ends p
IsOutcome g others loc via ends whole why Longer = (q : List Cell) → IsTour g others loc via ends q → whole < last_index q
IsOutcome g others loc via ends whole why GivenUp = why
