-- agents that are not on their ways
use Rattle.std.specs.Prelude.{◌≡◌, ◌≢◌, ℕ, ◌-◌, ◌<◌, ◌≤◌, Bool, true, false, List, length, Contains}
use Rattle.wh_grid.specs.declared.cell.Cell.{Cell}
use Rattle.wh_grid.specs.Grids.{Floor}
use Rattle.wh_path.specs.Paths.{cell_at}
use Rattle.wh_points.specs.declared.points.Point.{Point}
use Rattle.wh_points.specs.Points.{Layout, Site}
use Rattle.wh_core.specs.States.{State}
use Rattle.wh_core.specs.Laws.{IsOnItsWay}

-- the points over a grid, where paths go on home or not
abbrev pub site_at : Floor → Layout → Bool → Site
site_at grid layout homes = record { grid = grid; layout = layout; homes = homes }

-- The agent is not on its way, and each agent before it is.
pub record IsFirstStray (site : Site) (s : State) (agent : ℕ) : Type 0 where
  pub known : agent < length s.paths
  pub stray : IsOnItsWay site s agent → ⊥
  pub earlier : (other : ℕ) → other < agent → IsOnItsWay site s other

-- the cell that it comes to last: home if paths go on home, and else the last stop
abbrev pub last_of : Bool → Cell → List Cell → Cell
last_of false home stops = cell_at stops (length stops - 1)
last_of true home stops = home

-- one of the points stands at the cell
abbrev pub IsAtPoint : List Point → Cell → Type 0
IsAtPoint points cell = (point : Point) × Contains points point × (point.cell ≡ cell)

-- An agent that comes to the cell goes past each next stop that is the cell: before it `before` stops are behind it, then
-- `after`.
pub record GoesPast (stops : List Cell) (before : ℕ) (here : Cell) (after : ℕ) : Type 0 where
  pub forward : before ≤ after
  pub few : after ≤ length stops
  pub each_here : (i : ℕ) → before ≤ i → i < after → cell_at stops i ≡ here
  pub next_elsewhere : after < length stops → cell_at stops after ≢ here
