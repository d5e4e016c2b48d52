-- a field of several cells that is filled as far as asked
use Rattle.std.specs.Prelude.{◌≡◌, ℕ, ◌+◌, ◌≤◌, ◌⊎◌, List, [], ◌∷◌, min, length, drop, vec_capacity}
use Rattle.wh_grid.specs.declared.cell.Cell.{Cell}
use Rattle.wh_grid.specs.Grids.{Floor}
use Rattle.wh_field.specs.Distances.{distance}
use Rattle.wh_field.specs.Fields.{Sources}
use Rattle.wh_field.specs.Growing.{capped}
use Rattle.wh_field.specs.Places.{IsSurveying}
use Rattle.wh_field.specs.Tables.{HasRoom, IsListed}
use Rattle.wh_field.specs.declared.nearest.NearestField.TheInside.{Inside}

-- the distance from the nearest of some cells as far as a level; one more than that where all are farther, or there is no walk
abbrev pub nearest_capped : Floor → List Cell → ℕ → Cell → ℕ
nearest_capped g [] level c = level + 1
nearest_capped g (source ∷ cells) level c = min (capped (distance g source c) level) (nearest_capped g cells level c)

abbrev pub nearest_sources : Inside → Sources
nearest_sources f = record { grid = f.grid.value; cells = f.sources.items; level = f.level }

-- the table is filled from the sources to the front, and the level is no farther, unless no layer is left
pub record IsNearestField (f : Inside) : Type 0 where
  pub width : f.width ≡ f.grid.value.width
  pub height : f.height ≡ f.grid.value.height
  pub narrow : f.width ≤ 4096
  pub low : f.height ≤ 4096
  pub surveying : IsSurveying f.grid.value [] f.sources.items f.front.distance f.table.items (drop f.front.head f.queue.items)
  pub head : f.front.head ≤ length f.queue.items
  pub room : HasRoom (vec_capacity f.queue) f.table.items f.queue.items
  pub listed : IsListed f.table.items f.queue.items
  pub most : f.level ≤ 4294967293
  pub known : (f.level ≤ f.front.distance) ⊎ ((f.level ≡ 4294967293) × (length f.queue.items ≤ f.front.head))
