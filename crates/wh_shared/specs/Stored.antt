-- what a contract sees of the fields that planners share
use Rattle.std.specs.Prelude.{◌≡◌, ℕ, ◌+◌, List, Contains, Option, Some, None, min}
use Rattle.wh_grid.specs.declared.cell.Cell.{Cell}
use Rattle.wh_grid.specs.Grids.{Floor}
use Rattle.wh_field.specs.Growing.{Growing}

-- it is the field from this cell, over this grid, filled to some level
abbrev pub IsFieldFrom : Floor → Cell → Growing → Type 0
IsFieldFrom g from field = (field.grid ≡ g) × (field.cell ≡ from)

-- each field is the true one from its cell
abbrev pub AreTrue : Floor → List (Cell × Growing) → Type 0
AreTrue g fields = (e : Cell × Growing) → Contains fields e → IsFieldFrom g e.0 e.1

-- a level some steps beyond a distance, but no greater than a field's greatest, which it is where there is no distance
abbrev pub level_beyond : Option ℕ → ℕ → ℕ
level_beyond None farther = 4294967293
level_beyond (Some n) farther = min (n + farther) 4294967293
