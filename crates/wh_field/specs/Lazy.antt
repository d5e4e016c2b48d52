-- a field that is filled only as far as asked
use Rattle.std.specs.Prelude.{◌≡◌, ℕ, ◌<◌, ◌≤◌, List, [], ◌∷◌, Bool, false, ◌&&◌, nat_lt, nat_eq, length, drop, map, replicate, slice_index_or, vec_capacity}
use Rattle.wh_grid.specs.declared.cell.Cell.{Cell}
use Rattle.wh_field.specs.Fields.{Seeking}
use Rattle.wh_grid.specs.Grids.{Floor}
use Rattle.wh_field.specs.Places.{place, places, IsSurveying}
use Rattle.wh_field.specs.Tables.{HasRoom, IsListed}
use Rattle.wh_field.specs.declared.lazy.LazyField.TheInside.{Inside}

-- whether the cell lies within the sides, and its place is sought
abbrev pub is_sought : Seeking → Cell → Bool
is_sought f c = (nat_lt c.x f.grid.width && nat_lt c.y f.grid.height) && slice_index_or f.sought (place f.grid c) false

-- no place is sought
abbrev pub nowhere : Floor → List Bool
nowhere g = replicate (places g) false

abbrev pub lazy_source : Inside → Seeking
lazy_source f = record { grid = f.grid.value; cell = f.source; sought = map (λ m. nat_eq m f.mark) f.marks.items }

-- the table is filled up to the front, and no mark is later than the one in use
pub record IsLazyField (f : Inside) : Type 0 where
  pub width : f.width ≡ f.grid.value.width
  pub height : f.height ≡ f.grid.value.height
  pub narrow : f.width ≤ 4096
  pub low : f.height ≤ 4096
  pub surveying : IsSurveying f.grid.value [] (f.source ∷ []) f.front.distance f.table.items (drop f.front.head f.queue.items)
  pub head : f.front.head ≤ length f.queue.items
  pub room : HasRoom (vec_capacity f.queue) f.table.items f.queue.items
  pub listed : IsListed f.table.items f.queue.items
  pub marked : length f.marks.items ≡ places f.grid.value
  pub positive : 0 < f.mark
  pub latest : (i : ℕ) → slice_index_or f.marks.items i 0 ≤ f.mark
