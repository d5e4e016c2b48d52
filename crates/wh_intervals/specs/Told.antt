-- what a search has expanded so far
use Rattle.std.specs.Prelude.{◌≡◌, ℕ, ◌+◌, ◌<◌, ◌≤◌, ◌⊎◌, Option, Some, None, List, length, Contains}
use Rattle.wh_grid.specs.declared.cell.Cell.{Cell}
use Rattle.wh_path.specs.Paths.{last_index}
use Rattle.wh_search.specs.States.{Steps, Reaches}
use Rattle.wh_search.specs.Tours.{IsTour}
use Rattle.wh_intervals.specs.Arrivals.{Covered, IsInterval, total}
use Rattle.wh_intervals.specs.Efforts.{arrival, IsOneOf, AreOnce, IsPart}
use Rattle.wh_intervals.specs.Nodes.{state_of, interval_of, arrival_of, node_at, bound_at, IsExpanded, IsBusy}
use Rattle.wh_intervals.specs.Problems.{Problem}
use Rattle.wh_intervals.specs.Queues.{Waiting}
use Rattle.wh_intervals.specs.declared.entry.Entry.{Entry}
use Rattle.wh_intervals.specs.declared.interval.Interval.{Interval}
use Rattle.wh_intervals.specs.declared.node.Node.{Node}
use Rattle.wh_intervals.specs.Stays.{Stay}

-- a node in the interval, from a time on
abbrev pub node_in : Interval → ℕ → Node
node_in i t = record { time = t; leg = i.leg; cell = i.cell; until = i.until; parent = 0 }

-- the interval is expanded from this time on: one of the stays begins then, and they stand for all its later times
pub record IsSpent (p : Problem) (nodes : List Node) (queue : List Entry) (stays : List Stay) (i : Interval) (t : ℕ) : Type 0 where
  pub from : t ≤ i.until
  pub in_time : i.until ≤ p.limit
  pub interval : IsInterval p.others p.limit (arrival_of (node_in i t))
  pub expanded : IsExpanded p nodes (node_in i t)
  pub first : Stay
  pub among : Contains stays first
  pub state_is : (arrival first).state ≡ state_of (node_in i t)
  pub time_is : first.time ≡ t
  pub stands : (k : ℕ) → t ≤ k → k ≤ i.until → Covered (IsOneOf stays) k (state_of (node_in i t))
  pub past : (b n : ℕ) → Waiting queue b n → bound_at p (node_in i t) ≤ b

-- the stay is in an interval that is expanded
pub record IsWithin (closed : Interval → Option ℕ) (s : Stay) : Type 0 where
  pub interval : Interval
  pub since : ℕ
  pub closed_is : closed interval ≡ Some since
  pub state_is : (arrival s).state ≡ state_of (node_in interval since)
  pub from : since ≤ s.time
  pub to : s.until ≤ interval.until

-- the node's interval is expanded from its time on
pub record IsPast (closed : Interval → Option ℕ) (n : Node) : Type 0 where
  pub since : ℕ
  pub closed_is : closed (interval_of n) ≡ Some since
  pub from : since ≤ n.time

-- where the node's interval is expanded from a time on, or is not at all: from the node's time up to this last one it is left to be, which is all of it,
-- or what is before that time
pub data IsRest (since : Option ℕ) (n : Node) (last : ℕ) : Type 0 where
  whole : since ≡ None → last ≡ n.until → IsRest since n last
  front : (time : ℕ) → since ≡ Some time → n.time < time → time ≡ last + 1 → IsRest since n last

-- one of the stays begins at this time
abbrev pub IsBegun : List Stay → ℕ → Type 0
IsBegun stays t = (s : Stay) × Contains stays s × (s.time ≡ t)

-- each stay can be reached at all its times, may lead to the end of any tour, or to one that is late by no more than the slack, and is a part of an interval; each node's interval is expanded from its
-- time on, or it waits, or is the one that is being expanded; and a stay begins with each node that leads to another one
pub record IsTold (p : Problem) (nodes : List Node) (queue : List Entry) (busy : Option ℕ) (closed : Interval → Option ℕ) (stays : List Stay) : Type 0 where
  pub reached : (s : Stay) → Contains stays s → (k : ℕ) → s.time ≤ k → k ≤ s.until → Reaches (Steps p.grid p.others p.via) p.start k (arrival s).state
  pub may_lead : (s : Stay) → Contains stays s → (q : List Cell) → IsTour p.grid p.others p.start.cell p.via p.ends q → total p.estimate s.time (arrival s).state ≤ last_index q + p.slack
  pub parts : (s : Stay) → Contains stays s → IsPart p.others p.estimate p.base p.limit stays s
  pub once : AreOnce stays
  pub spent : (i : Interval) (t : ℕ) → closed i ≡ Some t → IsSpent p nodes queue stays i t
  pub within : (s : Stay) → Contains stays s → IsWithin closed s
  pub each : (i : ℕ) → i < length nodes → IsPast closed (node_at nodes i) ⊎ Waiting queue (bound_at p (node_at nodes i)) i ⊎ IsBusy busy i
  pub begun : (i : ℕ) → i < length nodes → 0 < (node_at nodes i).time → IsBegun stays (node_at nodes (node_at nodes i).parent).time

-- so it is told of this many stays
pub record IsCounted (p : Problem) (nodes : List Node) (queue : List Entry) (busy : Option ℕ) (closed : Interval → Option ℕ) (count : ℕ) : Type 0 where
  pub stays : List Stay
  pub number : length stays ≡ count
  pub told : IsTold p nodes queue busy closed stays
