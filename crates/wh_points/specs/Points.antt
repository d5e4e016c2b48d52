-- the points of a warehouse, and what holds of them
use Rattle.std.specs.Prelude.{◌≢◌, ℕ, ◌<◌, List, [], Bool, true, false, length, slice_index, slice_index_or, map, count_by, All, Contains}
use Rattle.wh_grid.specs.declared.cell.Cell.{Cell}
use Rattle.wh_points.specs.declared.points.Point.{Point}
use Rattle.wh_points.specs.declared.points.Kind.{Kind}
use Rattle.wh_grid.specs.Grids.{Floor, IsPassable}
use Rattle.wh_path.specs.Paths.{cell_at}

-- the points in the order of their file, the number of the point at which each agent starts, and whether the rule
-- against following stands
pub record Layout : Type 0 where
  pub points : List Point
  pub agents : List ℕ
  pub nofollow : Bool

-- the points on their grid; and whether each agent's path goes on home, by the option
pub record Site : Type 0 where
  pub grid : Floor
  pub layout : Layout
  pub homes : Bool

-- a station of this name stands at the cell
abbrev pub IsStation : Layout → List ℕ → Cell → Type 0
IsStation layout name cell = Contains layout.points (record { name = name; cell = cell; kind = Kind.Station })

-- a parking of this name stands at the cell
abbrev pub IsParking : Layout → List ℕ → Cell → Type 0
IsParking layout name cell = Contains layout.points (record { name = name; cell = cell; kind = Kind.Parking })

-- a point of this name, of either kind, stands at the cell
abbrev pub IsPoint : Layout → List ℕ → Cell → Type 0
IsPoint layout name cell = (kind : Kind) × Contains layout.points (record { name = name; cell = cell; kind = kind })

-- some point stands at the cell
abbrev pub IsPointCell : Layout → Cell → Type 0
IsPointCell layout cell = (name : List ℕ) × IsPoint layout name cell

-- the point of a number, from 0; past the last one it is a meaningless point
abbrev pub point_at : List Point → ℕ → Point
point_at points n = slice_index_or points n (record { name = []; cell = record { x = 0; y = 0 }; kind = Kind.Parking })

abbrev pub is_parking : Kind → Bool
is_parking Kind.Parking = true
is_parking Kind.Station = false

-- how many points are parkings
abbrev pub parkings : Layout → ℕ
parkings layout = count_by (λ point. is_parking point.kind) layout.points

-- where each agent starts
abbrev pub starts : Layout → List Cell
starts layout = map (λ n. (point_at layout.points n).cell) layout.agents

-- the home of an agent: the cell where the points file starts it
abbrev pub home_of : Layout → ℕ → Cell
home_of layout agent = cell_at (starts layout) agent

-- what every points file that is read gives: passable cells, no name or cell twice, and the agents start at different points
pub record IsLayout (g : Floor) (layout : Layout) : Type 0 where
  pub passable : All (λ point. IsPassable g point.cell) layout.points
  pub names : (i j : ℕ) → i < length layout.points → j < length layout.points → i ≢ j → (point_at layout.points i).name ≢ (point_at layout.points j).name
  pub cells : (i j : ℕ) → i < length layout.points → j < length layout.points → i ≢ j → (point_at layout.points i).cell ≢ (point_at layout.points j).cell
  pub known : All (λ n. n < length layout.points) layout.agents
  pub distinct : (i j : ℕ) → i < length layout.agents → j < length layout.agents → i ≢ j → slice_index layout.agents i ≢ slice_index layout.agents j
