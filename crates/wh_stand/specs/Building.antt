-- what a builder keeps
use Rattle.std.specs.Prelude.{◌≤◌, length}
use Rattle.wh_points.specs.Points.{Site, IsLayout}
use Rattle.wh_core.specs.States.{State}
use Rattle.wh_stand.specs.Parts.{parts_of}
use Rattle.wh_stand.specs.Columns.{IsTold}
use Rattle.wh_stand.specs.Flawless.{AreFlawless}

-- the points are a layout on their grid, and have all the agents; no part has a flaw; and the loads are those that the tasks tell
pub record IsWell (site : Site) (s : State) : Type 0 where
  pub layout : IsLayout site.grid site.layout
  pub few : length s.paths ≤ length site.layout.agents
  pub flawless : AreFlawless site (parts_of s)
  pub told : IsTold s
