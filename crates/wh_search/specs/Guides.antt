-- what a guide estimates
use Rattle.std.specs.Prelude.{◌≡◌, ℕ, ◌+◌, ◌<◌, Option, Some, None, List, length, slice_index, slice_index_or}
use Rattle.std.specs.Borrow.{Bor}
use Rattle.wh_grid.specs.declared.cell.Cell.{Cell}
use Rattle.wh_search.specs.declared.guide.Guide.{Guide}
use Rattle.wh_search.specs.declared.guide.Guide.TheVariants.{Nearest, Stops, Sights, Manhattan}
use Rattle.wh_field.specs.Fields.{Source, Sources}
use Rattle.wh_field.specs.Nearest.{nearest_capped}
use Rattle.wh_field.specs.Distances.{distance}
use Rattle.wh_search.specs.Fields.{far}
use Rattle.wh_search.specs.Sights.{sights_estimate}
use Rattle.wh_search.specs.Manhattan.{manhattan_estimate}
use Rattle.wh_path.specs.Paths.{cell_at}

-- the distance and what is further on; 0 where the field is absent
abbrev pub by_field : Option (Bor Source) → ℕ → Cell → ℕ
by_field None further c = 0
by_field (Some field) further c = far (distance field.now.grid field.now.cell c) further

-- on each leg by the field of the next stop, and the estimate from there on
abbrev pub stops_estimate : List (Option (Bor Source)) → List ℕ → ℕ → Cell → ℕ
stops_estimate fields onward l c = by_field (slice_index_or fields l None) (slice_index onward l) c

-- the distance to the nearest of some cells, as far as their field is filled, and one step more beyond
abbrev pub nearest_by : Sources → Cell → ℕ
nearest_by field c = nearest_capped field.grid field.cells field.level c

-- what a guide estimates
abbrev pub guide_estimate : Guide → ℕ → Cell → ℕ
guide_estimate (Nearest field) l c = nearest_by field.now c
guide_estimate (Stops fields onward) l c = stops_estimate fields.now onward.now l c
guide_estimate (Sights sights onward) l c = sights_estimate sights.now onward.now l c
guide_estimate (Manhattan stops onward) l c = manhattan_estimate stops.now onward.now l c

-- there is one number for each stop: nothing at the last one, and before it the estimate from the stop on
pub record IsOnward (fields : List (Option (Bor Source))) (stops : List Cell) (onward : List ℕ) : Type 0 where
  pub size : length onward ≡ length stops
  pub last : (l : ℕ) → l + 1 ≡ length stops → slice_index onward l ≡ 0
  pub before : (l : ℕ) → l + 1 < length stops → slice_index onward l ≡ stops_estimate fields onward (l + 1) (cell_at stops l)
