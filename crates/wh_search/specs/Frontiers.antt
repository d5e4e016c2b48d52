-- what is searched for, and what a search keeps: the states that it met
use Rattle.std.specs.Prelude.{◌≡◌, ℕ, ◌<◌, ◌≤◌, ◌^◌, ◌⊎◌, IsTrue, List, ◌∷◌, length, slice_index_or, Contains}
use Rattle.wh_grid.specs.declared.cell.Cell.{Cell}
use Rattle.wh_grid.specs.Grids.{Floor, IsPassable}
use Rattle.wh_resv.specs.Others.{Others, MayRest}
use Rattle.wh_path.specs.Paths.{horizon, last_index}
use Rattle.wh_search.specs.declared.errand.Errand.{Errand}
use Rattle.wh_search.specs.declared.noted.Node.{Node}
use Rattle.wh_search.specs.Guides.{guide_estimate}
use Rattle.wh_search.specs.States.{State, Arrives, IsEnd, IsEstimate, Leads}
use Rattle.wh_search.specs.Tours.{longest_tour, IsTour}

-- what is searched for
pub record Problem : Type 0 where
  pub grid : Floor
  pub others : Others
  pub via : List Cell
  pub ends : List Cell
  pub start : State
  pub estimate : ℕ → Cell → ℕ
  pub horizon : ℕ
  pub limit : ℕ

abbrev pub problem : Errand → Problem
problem e =
    record { grid = e.grid.now; others = e.others.now; via = e.via.now; ends = e.ends.now; start = record { leg = e.first; cell = e.loc }; estimate = guide_estimate e.guide; horizon = e.horizon; limit = e.limit }

-- the numbers of an errand are right, and its guide is an estimate; where its soonest time is exact, one may rest at each end from then on;
-- and no tour ends before its least time
pub record IsErrand (e : Errand) : Type 0 where
  pub inside : IsPassable e.grid.now e.loc
  pub arrives : Arrives e.via.now 0 e.loc e.first
  pub horizon_is : e.horizon ≡ horizon e.others.now.paths
  pub limit_is : e.limit ≡ longest_tour e.grid.now e.others.now e.via.now
  pub small : e.limit < 2 ^ 62
  pub guided : IsEstimate e.grid.now e.via.now e.ends.now (guide_estimate e.guide)
  pub not_sooner : (k : ℕ) (s : State) → IsEnd e.others.now e.via.now e.ends.now k s → e.soonest ≤ k
  pub exact : IsTrue e.exact → (k : ℕ) (c : Cell) → Contains e.ends.now c → e.soonest ≤ k → MayRest e.others.now c k
  pub none_before : (q : List Cell) → IsTour e.grid.now e.others.now e.loc e.via.now e.ends.now q → e.least ≤ last_index q

abbrev pub state_of : Node → State
state_of n = record { leg = n.leg; cell = n.cell }

abbrev pub node_at : List Node → ℕ → Node
node_at nodes i = slice_index_or nodes i (record { time = 0; leg = 0; cell = record { x = 0; y = 0 }; parent = 0 })

-- a state at time k was met, at k or from the horizon on before it
pub record HasState (p : Problem) (nodes : List Node) (k : ℕ) (t : State) : Type 0 where
  pub index : ℕ
  pub within : index < length nodes
  pub state_is : state_of (node_at nodes index) ≡ t
  pub alike : ((node_at nodes index).time ≡ k) ⊎ ((p.horizon ≤ (node_at nodes index).time) × ((node_at nodes index).time ≤ k))

-- a path from the start to a node, by its first cell and those to which that leads
pub record IsTrace (p : Problem) (path : List Cell) (n : Node) : Type 0 where
  pub rest : List Cell
  pub path_is : path ≡ p.start.cell ∷ rest
  pub leads : Leads p.grid p.others p.via 0 p.start rest n.time (state_of n)
