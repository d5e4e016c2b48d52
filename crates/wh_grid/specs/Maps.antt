-- What a map's text says: its floor, or the first fault with its line.
use Rattle.std.specs.Prelude.{◌≡◌, ◌≤◌, length, take, ℕ, zero, suc, ◌+◌, Bool, List, [], ◌∷◌, ◌++◌, Result, Ok, Err}
use Rattle.wh_text.specs.Lines.{Unread, lines_of}
use Rattle.wh_grid.specs.declared.fault.MapKind.TheVariants.{Head, RowsMissing}
use Rattle.wh_grid.specs.declared.fault.Fault.{Fault}
use Rattle.wh_grid.specs.declared.fault.MapFault.{MapFault}
use Rattle.wh_grid.specs.declared.fault.MapFault.TheVariants.{NoMemory, At}
use Rattle.wh_grid.specs.declared.head.Side.{Side}
use Rattle.wh_grid.specs.declared.head.Size.{Size}
use Rattle.wh_grid.specs.declared.head.Side.TheVariants.{Height, Width}
use Rattle.wh_grid.specs.Grids.{Floor}
use Rattle.wh_grid.specs.Faults.{◌>>=◌, located, line_by}
use Rattle.wh_grid.specs.MapLines.{type_line, map_line, side_line, first_side_line, other_side, row_line, blank_line}

-- as many rows as the height says
unfoldable pub rows_of : ℕ → ℕ → Unread → Result (List Bool × Unread) Fault
rows_of zero width u = Ok ([], u)
rows_of (suc height) width u = do
  row ← line_by RowsMissing (row_line width) u
  rest ← rows_of height width row.1
  Ok (row.0 ++ rest.0, rest.1)

-- nothing but blanks from here on
unfoldable pub blanks_of : ℕ → List (List ℕ) → Result Unit Fault
blanks_of count [] = Ok tt
blanks_of count (line ∷ lines) = do
  blank ← located (record { lines = lines; count = count + 1 }) (blank_line line)
  blanks_of (count + 1) lines

abbrev pub sides_by : Side → ℕ → ℕ → Size
sides_by Height n m = record { width = m; height = n }
sides_by Width n m = record { width = n; height = m }

-- the four lines before the rows
unfoldable pub head_of : Unread → Result (Size × Unread) Fault
head_of u = do
  start ← line_by Head type_line u
  first ← line_by Head first_side_line start.1
  second ← line_by Head (side_line (other_side first.0.0)) first.1
  last ← line_by Head map_line second.1
  Ok (sides_by first.0.0 first.0.1 second.0, last.1)

unfoldable pub map_of : Unread → Result Floor Fault
map_of u = do
  head ← head_of u
  rows ← rows_of head.0.height head.0.width head.1
  rest ← blanks_of rows.1.count rows.1.lines
  Ok (record { width = head.0.width; height = head.0.height; walkable = rows.0 })

abbrev pub map_at : List ℕ → Result Floor Fault
map_at text = map_of (record { lines = lines_of text; count = 0 })

-- nothing after a fault's line changes it
abbrev pub IsFirst : List (List ℕ) → MapFault → Type 0
IsFirst lines NoMemory = Unit {0}
IsFirst lines (At fault) = fault.line ≤ length lines → (more : List (List ℕ)) → map_of (record { lines = take fault.line lines ++ more; count = 0 }) ≡ Err fault
