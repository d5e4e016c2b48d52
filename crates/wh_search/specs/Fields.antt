-- the fields of the stops, and what they estimate
use Rattle.std.specs.Prelude.{◌≡◌, ℕ, ◌+◌, ◌<◌, ◌-◌, ◌^◌, List, Option, Some, None, slice_index_or, min, length, ⊤}
use Rattle.std.specs.Borrow.{Bor}
use Rattle.wh_grid.specs.declared.cell.Cell.{Cell}
use Rattle.wh_grid.specs.Grids.{Floor}
use Rattle.wh_field.specs.Fields.{Source}
use Rattle.wh_field.specs.declared.field.Field.{Field}
use Rattle.wh_path.specs.Paths.{cell_at}

-- a distance and a number of further steps; the greatest number of 64 bits where there is no distance
abbrev pub far : Option ℕ → ℕ → ℕ
far None further = 2 ^ 64 - 1
far (Some n) further = min (further + n) (2 ^ 64 - 1)

-- a field that is there is that of the stop, over this grid
abbrev pub IsFieldAt : Floor → Option (Bor Source) → Cell → Type 0
IsFieldAt g None stop = ⊤
IsFieldAt g (Some field) stop = field.now ≡ record { grid = g; cell = stop }

-- there is a place for each stop, and each field that is there is that of its stop
pub record AreFieldsOf (g : Floor) (stops : List Cell) (fields : List (Option (Bor Source))) : Type 0 where
  pub size : length fields ≡ length stops
  pub each : (l : ℕ) → l < length stops → IsFieldAt g (slice_index_or fields l None) (cell_at stops l)

-- these are the fields of the stops, in order
pub record AreMade (g : Floor) (stops : List Cell) (fields : List Field) : Type 0 where
  pub size : length fields ≡ length stops
  pub each : (l : ℕ) (f : Field) → l < length stops → slice_index_or fields l f ≡ record { grid = g; cell = cell_at stops l }
