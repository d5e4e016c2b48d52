-- what the search in layers keeps
use Rattle.std.specs.Prelude.{◌≡◌, ℕ, ◌+◌, ◌<◌, ◌≤◌, ◌⊎◌, List, [], ◌∷◌, ◌++◌, length}
use Rattle.wh_grid.specs.Grids.{IsPassable}
use Rattle.wh_search.specs.declared.noted.Node.{Node}
use Rattle.wh_search.specs.Frontiers.{Problem, node_at, state_of, HasState}
use Rattle.wh_search.specs.States.{State, Steps, IsEnd}

-- time and estimate
abbrev pub total_of : Problem → ℕ → State → ℕ
total_of p k s = k + p.estimate s.leg s.cell

-- the node is one step after its parent
pub record IsChild (p : Problem) (nodes : List Node) (i : ℕ) (n : Node) : Type 0 where
  pub earlier : n.parent < i
  pub later : n.time ≡ (node_at nodes n.parent).time + 1
  pub steps : Steps p.grid p.others p.via (node_at nodes n.parent).time (state_of (node_at nodes n.parent)) (state_of n)

-- the node, at place i, is the start or comes from an earlier one
pub record IsReached (p : Problem) (nodes : List Node) (i : ℕ) (n : Node) : Type 0 where
  pub in_time : n.time ≤ p.limit
  pub few : n.leg ≤ length p.via
  pub inside : IsPassable p.grid n.cell
  pub comes : ((n.time ≡ 0) × (state_of n ≡ p.start)) ⊎ IsChild p nodes i n

-- each state to which this one leads, of less than the bound by time and estimate, was met, unless it is too late;
-- and where the bound is beyond its own, it is no end
pub record IsExpanded (p : Problem) (nodes : List Node) (k : ℕ) (s : State) (bound : ℕ) : Type 0 where
  pub onward : (t : State) → Steps p.grid p.others p.via k s t → total_of p (k + 1) t < bound → total_of p (k + 1) t ≤ p.limit → HasState p nodes (k + 1) t
  pub no_end : total_of p k s < bound → IsEnd p.others p.via p.ends k s → ⊥

-- a state was met: one that stands for it was there, or it was added
abbrev pub Notes : Problem → List Node → List Node → Node → Type 0
Notes p old new n = ((new ≡ old) × HasState p old n.time (state_of n)) ⊎ (new ≡ old ++ n ∷ [])

-- the start was met; each node is reached; none is earlier than one before it, and all are at most one step after the next to be looked at;
-- those before that one are expanded
pub record IsLayered (p : Problem) (nodes : List Node) (next : ℕ) : Type 0 where
  pub start : HasState p nodes 0 p.start
  pub reached : (i : ℕ) → i < length nodes → IsReached p nodes i (node_at nodes i)
  pub sorted : (i j : ℕ) → i ≤ j → j < length nodes → (node_at nodes i).time ≤ (node_at nodes j).time
  pub near : (i : ℕ) → i < length nodes → next < length nodes → (node_at nodes i).time ≤ (node_at nodes next).time + 1
  pub expanded : (i : ℕ) → i < next → i < length nodes → IsExpanded p nodes (node_at nodes i).time (state_of (node_at nodes i)) (p.limit + 1)
