-- What every layout has, whatever its grid.
use Rattle.std.specs.Prelude.{◌≢◌, ℕ, ◌<◌, List, Option, length, slice_index, position, All}
use Rattle.std.specs.Str.{bytes_eq}
use Rattle.wh_points.specs.declared.points.Point.{Point}
use Rattle.wh_points.specs.Points.{Layout, point_at}

-- no two points have a name or a cell in common, and the agents start at points that stand and differ
pub record AreApart (layout : Layout) : Type 0 where
  pub names : (i j : ℕ) → i < length layout.points → j < length layout.points → i ≢ j → (point_at layout.points i).name ≢ (point_at layout.points j).name
  pub cells : (i j : ℕ) → i < length layout.points → j < length layout.points → i ≢ j → (point_at layout.points i).cell ≢ (point_at layout.points j).cell
  pub known : All (λ n. n < length layout.points) layout.agents
  pub distinct : (i j : ℕ) → i < length layout.agents → j < length layout.agents → i ≢ j → slice_index layout.agents i ≢ slice_index layout.agents j

-- the number of the first point of a name
abbrev pub find_name : List ℕ → List Point → Option ℕ
find_name name points = position (λ point. bytes_eq name point.name) points
