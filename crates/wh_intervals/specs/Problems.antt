-- what is searched for
use Rattle.std.specs.Prelude.{◌≡◌, ℕ, ◌+◌, ◌<◌, ◌≤◌, ◌^◌, List}
use Rattle.wh_grid.specs.declared.cell.Cell.{Cell}
use Rattle.wh_grid.specs.Grids.{Floor, IsPassable}
use Rattle.wh_path.specs.Paths.{last_index}
use Rattle.wh_resv.specs.Others.{Others}
use Rattle.wh_search.specs.Guides.{guide_estimate}
use Rattle.wh_search.specs.States.{State, Arrives, IsEstimate}
use Rattle.wh_search.specs.Tours.{longest_tour, IsTour}
use Rattle.wh_intervals.specs.declared.errand.Errand.{Errand}

-- a path from the start through some stops to one of the ends, with an estimate of the steps left; none beyond the limit is looked at,
-- and none ends before the base, less the slack
pub record Problem : Type 0 where
  pub grid : Floor
  pub others : Others
  pub via : List Cell
  pub ends : List Cell
  pub start : State
  pub estimate : ℕ → Cell → ℕ
  pub limit : ℕ
  pub base : ℕ
  pub slack : ℕ

abbrev pub problem : Errand → Problem
problem e = record { grid = e.grid.now; others = e.others.now; via = e.via.now; ends = e.ends.now; start = record { leg = e.first; cell = e.loc }; estimate = guide_estimate e.guide; limit = e.limit; base = e.base; slack = e.slack }

-- its numbers are right
pub record IsProblem (p : Problem) : Type 0 where
  pub inside : IsPassable p.grid p.start.cell
  pub arrives : Arrives p.via 0 p.start.cell p.start.leg
  pub limit_is : p.limit ≡ longest_tour p.grid p.others p.via
  pub small : p.limit < 2 ^ 62
  pub guided : IsEstimate p.grid p.via p.ends p.estimate
  pub none_before : (q : List Cell) → IsTour p.grid p.others p.start.cell p.via p.ends q → p.base ≤ last_index q + p.slack
