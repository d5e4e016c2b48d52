-- fields of some stops, each filled beyond the cell from which it goes there
use Rattle.std.specs.Prelude.{◌≡◌, ℕ, ◌+◌, ◌<◌, List, length, min, Bool, true, false, Option, Some, None, IsSomeAnd, slice_index_or}
use Rattle.wh_grid.specs.declared.cell.Cell.{Cell}
use Rattle.wh_grid.specs.Grids.{Floor}
use Rattle.wh_path.specs.Paths.{cell_at}
use Rattle.wh_field.specs.Distances.{distance}
use Rattle.wh_field.specs.declared.sight.Sight.{Sight}
use Rattle.wh_detours.specs.Barred.{cell_before}
use Rattle.wh_detours.specs.declared.filled.Filled.{Filled}

-- 16 steps beyond a distance, but no more than the greatest level of a field, which it is where there is no distance
abbrev pub level_past : Option ℕ → ℕ
level_past None = 4294967293
level_past (Some n) = min (n + 16) 4294967293

-- it is the field of this stop, over this grid, as far as an agent that comes from this cell needs it
pub record IsFilledFor (g : Floor) (from stop : Cell) (f : Filled) : Type 0 where
  pub grid : f.field.grid ≡ g
  pub source : f.field.cell ≡ stop
  pub level : f.level ≡ level_past (distance g stop from)

-- it is there exactly where it is needed
abbrev pub IsFilledIf : Floor → Cell → Cell → Bool → Option Filled → Type 0
IsFilledIf g from stop wanted None = wanted ≡ false
IsFilledIf g from stop wanted (Some f) = (wanted ≡ true) × IsFilledFor g from stop f

-- these are the wanted ones of the fields of the first n stops, each in its place
pub record AreFilled (g : Floor) (loc : Cell) (stops : List Cell) (wanted : List Bool) (n : ℕ) (fields : List (Option Filled)) : Type 0 where
  pub size : length fields ≡ n
  pub each : (l : ℕ) → l < n → IsFilledIf g (cell_before loc stops l) (cell_at stops l) (slice_index_or wanted l false) (slice_index_or fields l None)

-- of a stop with a field of its own it is a sight of that field as far as its level; else it is what was there
abbrev pub IsSightFor : Option Filled → Option Sight → Option Sight → Type 0
IsSightFor None was sight = sight ≡ was
IsSightFor (Some f) was sight = IsSomeAnd sight (λ s. (s.field.now ≡ f.field) × (s.level ≡ f.level))
