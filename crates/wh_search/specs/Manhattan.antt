-- the Manhattan distance, and what is estimated by it
use Rattle.std.specs.Prelude.{◌≡◌, ℕ, ◌+◌, ◌-◌, ◌<◌, ◌^◌, List, min, length, slice_index}
use Rattle.wh_grid.specs.declared.cell.Cell.{Cell}
use Rattle.wh_path.specs.Paths.{cell_at}

-- how many columns and rows two cells are apart
abbrev pub manhattan : Cell → Cell → ℕ
manhattan from to = (from.x - to.x) + (to.x - from.x) + ((from.y - to.y) + (to.y - from.y))

-- the distance and what is further on
abbrev pub by_manhattan : Cell → ℕ → Cell → ℕ
by_manhattan stop further c = min (further + manhattan c stop) (2 ^ 64 - 1)

-- on each leg the distance to the next stop, and the estimate from there on
abbrev pub manhattan_estimate : List Cell → List ℕ → ℕ → Cell → ℕ
manhattan_estimate stops onward l c = by_manhattan (cell_at stops l) (slice_index onward l) c

-- there is one number for each stop: nothing at the last one, and before it the estimate from the stop on
pub record IsOnwardByManhattan (stops : List Cell) (onward : List ℕ) : Type 0 where
  pub size : length onward ≡ length stops
  pub last : (l : ℕ) → l + 1 ≡ length stops → slice_index onward l ≡ 0
  pub before : (l : ℕ) → l + 1 < length stops → slice_index onward l ≡ manhattan_estimate stops onward (l + 1) (cell_at stops l)
