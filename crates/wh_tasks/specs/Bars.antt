-- which open task is barred by which end, and which change their bars after a path ends elsewhere
use Rattle.std.specs.Prelude.{◌≡◌, ◌≢◌, ℕ, ◌⊎◌, ◌↔◌, List, Option, Some, None, length, All, Contains, slice_index_or}
use Rattle.wh_grid.specs.declared.cell.Cell.{Cell}
use Rattle.wh_tasks.specs.declared.task.Task.{Task}
use Rattle.wh_tasks.specs.declared.cell_lists.Stop.{Stop}
use Rattle.wh_tasks.specs.Tasks.{IsTask, IsOpen}
use Rattle.wh_tasks.specs.CellLists.{StandsAt}

-- the bar of a task, where each has its bar by its number
abbrev pub bar_of : List (Option Cell) → ℕ → Option Cell
bar_of bars n = slice_index_or bars n None

-- The others are among the ends, and all ends but those at the agent's own cell are among the others.
pub record AreOthers (own : Cell) (ends others : List Cell) : Type 0 where
  pub some : (cell : Cell) → Contains others cell → Contains ends cell
  pub all : (cell : Cell) → Contains ends cell → cell ≢ own → Contains others cell

-- the cell is one of the stops, and a path ends there
pub record IsBar (ends stops : List Cell) (cell : Cell) : Type 0 where
  pub stop : Contains stops cell
  pub is_end : Contains ends cell

-- at none of the cells a path ends
abbrev pub AreClear : List Cell → List Cell → Type 0
AreClear ends stops = All (λ stop. ¬ Contains ends stop) stops

-- Each task has a bar or none. Where it is open, its bar is one of its stops at which a path ends; if it has none, no path
-- ends at its stops, and it is among those that are clear, where no other is.
pub record AreBars (tasks : List Task) (ends : List Cell) (bars : List (Option Cell)) (clear : List ℕ) : Type 0 where
  pub each : length bars ≡ length tasks
  pub barred : (n : ℕ) (task : Task) (bar : Cell) → IsTask tasks n task → IsOpen task → bar_of bars n ≡ Some bar → IsBar ends task.stops bar
  pub clear_stops : (n : ℕ) (task : Task) → IsTask tasks n task → IsOpen task → bar_of bars n ≡ None → AreClear ends task.stops
  pub clear_listed : (n : ℕ) (task : Task) → IsTask tasks n task → IsOpen task → bar_of bars n ≡ None → Contains clear n
  pub clear_only : (n : ℕ) → Contains clear n → (task : Task) × IsTask tasks n task × IsOpen task × (bar_of bars n ≡ None)

-- where an open task stops it is found among the stops, and each that is found there is open and stops there
pub record AreOpenStops (tasks : List Task) (stops : List Stop) : Type 0 where
  pub there : (n : ℕ) (task : Task) (cell : Cell) → IsTask tasks n task → IsOpen task → Contains task.stops cell → (k : ℕ) × StandsAt stops k n cell
  pub only : (k n : ℕ) (cell : Cell) → StandsAt stops k n cell → (task : Task) × IsTask tasks n task × IsOpen task × Contains task.stops cell

-- A task that had no bar has it at the cell now, and is not clear any more, if a stop of it stands there. No other has changed.
pub record AreBarredAt (stops : List Stop) (cell : Cell) (old new : List (Option Cell)) (was clear : List ℕ) : Type 0 where
  pub each : length new ≡ length old
  pub kept : (n : ℕ) (bar : Cell) → bar_of old n ≡ Some bar → bar_of new n ≡ Some bar
  pub barred : (n : ℕ) → bar_of old n ≡ None → (bar_of new n ≡ None) ⊎ ((bar_of new n ≡ Some cell) × ((k : ℕ) × StandsAt stops k n cell))
  pub done : (k n : ℕ) → StandsAt stops k n cell → bar_of new n ≢ None
  pub clear_are : (n : ℕ) → Contains clear n ↔ (Contains was n × (bar_of new n ≡ None))

-- The bars are as they should be, but that at one cell, where bars are, a path may not end any more.
pub record AreBarsBut (but : Cell) (tasks : List Task) (ends : List Cell) (bars : List (Option Cell)) (clear : List ℕ) : Type 0 where
  pub each : length bars ≡ length tasks
  pub stop : (n : ℕ) (task : Task) (bar : Cell) → IsTask tasks n task → IsOpen task → bar_of bars n ≡ Some bar → Contains task.stops bar
  pub is_end : (n : ℕ) (task : Task) (bar : Cell) → IsTask tasks n task → IsOpen task → bar_of bars n ≡ Some bar → bar ≢ but → Contains ends bar
  pub clear_stops : (n : ℕ) (task : Task) → IsTask tasks n task → IsOpen task → bar_of bars n ≡ None → AreClear ends task.stops
  pub clear_listed : (n : ℕ) (task : Task) → IsTask tasks n task → IsOpen task → bar_of bars n ≡ None → Contains clear n
  pub clear_only : (n : ℕ) → Contains clear n → (task : Task) × IsTask tasks n task × IsOpen task × (bar_of bars n ≡ None)
