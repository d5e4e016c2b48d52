-- who is asked next for an order
use Rattle.std.specs.Prelude.{◌≡◌, ℕ, ◌<◌, ◌≤◌, ◌⊎◌, List, Bool, false, Option, Some, MatchOption, slice_get}
use Rattle.wh_path.specs.Paths.{place_of}
use Rattle.wh_field.specs.Distances.{IsDistance}
use Rattle.wh_points.specs.Points.{Site}
use Rattle.wh_tasks.specs.declared.task.Task.{Task}
use Rattle.wh_tasks.specs.Tasks.{pickup}
use Rattle.wh_tasks.specs.Choice.{IsAtMost}
use Rattle.wh_core.specs.States.{State}
use Rattle.wh_core.specs.Steps.{Answers, IsDue, IsNext, NoneIsNext, MakesWay}
use Rattle.wh_event.specs.declared.event.Event.{Event}
use Rattle.wh_event.specs.declared.reply.Reply.{Reply}
use Rattle.wh_token.specs.declared.asking.Taker.{Taker}

-- the agent may be asked: it was not asked already
abbrev pub MayBeAsked : List Bool → ℕ → Type 0
MayBeAsked asked agent = slice_get asked agent ≡ Some false

-- The agent would take an order if it asked: it is due, the order of this number is next for it, and it is so many steps from where it
-- is to the order's first stop; none where no walk leads there.
pub record WouldTake (site : Site) (s : State) (agent n : ℕ) (distance : Option ℕ) : Type 0 where
  pub due : IsDue site s agent
  pub task : Task
  pub next : IsNext site s agent n task
  pub is_distance : IsDistance site.grid (place_of s.paths agent) (pickup task) distance

-- It would take an order, and none of these agents would take one that is nearer, nor one as near with a lower number of the agent.
pub record TakesNearest (site : Site) (s : State) (These : ℕ → Type 0) (agent : ℕ) (distance : Option ℕ) : Type 0 where
  pub one : These agent
  pub number : ℕ
  pub takes : WouldTake site s agent number distance
  pub least : (other n : ℕ) (far : Option ℕ) → These other → WouldTake site s other n far → IsAtMost distance agent far other

-- none of these agents would take an order
abbrev pub NoneTakes : Site → State → (ℕ → Type 0) → Type 0
NoneTakes site s These = (agent : ℕ) → These agent → IsDue site s agent → NoneIsNext s agent

-- None of these agents would take an order, and it is the first of them that has to make way.
pub record MakesWayFirst (site : Site) (s : State) (These : ℕ → Type 0) (agent : ℕ) : Type 0 where
  pub one : These agent
  pub none : NoneTakes site s These
  pub due : IsDue site s agent
  pub makes_way : MakesWay site s agent
  pub first : (other : ℕ) → These other → IsDue site s other → MakesWay site s other → agent ≤ other

-- Of these agents it is next to ask: the one that would take the nearest order; or, where none would take any, the first that has to make
-- way.
abbrev pub IsNextToAsk : Site → State → (ℕ → Type 0) → ℕ → Type 0
IsNextToAsk site s These agent = ((distance : Option ℕ) × TakesNearest site s These agent distance) ⊎ MakesWayFirst site s These agent

-- each of these agents that is due would be told to rest
abbrev pub AllWouldRest : Site → State → (ℕ → Type 0) → Type 0
AllWouldRest site s These = (agent : ℕ) → These agent → IsDue site s agent → Answers site s Reply.Rested (Event.Request agent) s

-- one of the first agents, up to so many, that may be asked
abbrev pub IsAmong : List Bool → ℕ → ℕ → Type 0
IsAmong asked count agent = (agent < count) × MayBeAsked asked agent

-- the one of these agents that would take the nearest order, if one would
abbrev pub IsNearestTaker : Site → State → (ℕ → Type 0) → Option Taker → Type 0
IsNearestTaker site s These best = MatchOption best (NoneTakes site s These) (λ t. TakesNearest site s These t.agent t.steps)
