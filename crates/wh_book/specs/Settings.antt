use Rattle.std.specs.Prelude.{◌≡◌, ℕ, ◌≤◌, ◌<◌, List, [], length, slice_index_or, Contains}
use Rattle.wh_grid.specs.declared.cell.Cell.{Cell}
use Rattle.wh_points.specs.declared.points.Point.{Point}
use Rattle.wh_points.specs.Points.{Layout, Site, IsLayout}
use Rattle.wh_core.specs.Steps.{IsFirstFault, IsUnknownName, IsParkingName}
use Rattle.wh_event.specs.declared.reply.Refusal.{Refusal}
use Rattle.wh_book.specs.declared.setting.Fault.{Fault}

-- what is known of the points on their grid: they were read correctly, and the agents are few
pub record IsSite (site : Site) : Type 0 where
  pub layout : IsLayout site.grid site.layout
  pub few : length site.layout.agents ≤ 256

-- one of the points, which has this name; one of the points, which stands at this cell
pub record IsNamed (points : List Point) (name : List ℕ) (point : Point) : Type 0 where
  pub there : Contains points point
  pub name_is : point.name ≡ name

pub record IsPlaced (points : List Point) (cell : Cell) (point : Point) : Type 0 where
  pub there : Contains points point
  pub cell_is : point.cell ≡ cell

-- the name of a stop; past the last one it is the empty name
abbrev pub name_at : List (List ℕ) → ℕ → List ℕ
name_at stops k = slice_index_or stops k []

-- the stop of this number is the first that is no station's name, and this is why
abbrev pub IsFault : Layout → List (List ℕ) → Fault → Type 0
IsFault layout stops (Fault.Unknown k) = (k < length stops) × IsFirstFault layout stops (name_at stops k) × IsUnknownName layout (name_at stops k)
IsFault layout stops (Fault.Parking k) = (k < length stops) × IsFirstFault layout stops (name_at stops k) × IsParkingName layout (name_at stops k)

-- the number that it tells is that of one of `count` stops
abbrev pub IsStop : Fault → ℕ → Type 0
IsStop (Fault.Unknown k) count = k < count
IsStop (Fault.Parking k) count = k < count

-- the refusal of a task with such a stop
abbrev pub faulty : List (List ℕ) → Fault → Refusal
faulty stops (Fault.Unknown k) = Refusal.UnknownPoint (name_at stops k)
faulty stops (Fault.Parking k) = Refusal.NotStation (name_at stops k)
