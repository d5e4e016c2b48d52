-- the steps of a warehouse whose paths end at the last stop, and in which nobody was ever stopped: those of Token Passing (AAMAS 2017)
use Rattle.std.specs.Prelude.{◌≡◌, ◌≢◌, ℕ, ◌↔◌, ◌⊎◌, List, [], ◌∷◌, false, length, Contains}
use Rattle.wh_grid.specs.declared.cell.Cell.{Cell}
use Rattle.wh_grid.specs.Grids.{Floor}
use Rattle.wh_path.specs.Paths.{at, end, place_of, steps_left, others, ends, IsWalk}
use Rattle.wh_points.specs.Points.{Site, IsPoint, IsPointCell}
use Rattle.wh_tasks.specs.declared.task.Task.{Task}
use Rattle.wh_tasks.specs.Choice.{NoneEligible, IsNearest}
use Rattle.wh_planner.specs.Duties.{Delivers, ParksAt, IsLawful}
use Rattle.wh_core.specs.States.{State, arrived, adopted, assigned}
use Rattle.wh_core.specs.Steps as core
use Rattle.wh_core.specs.Steps.{IsKnown, IsDeliveryCell, other_ends}
use Rattle.wh_core.specs.Laws.{IsBeginning, AllOnTheirWays, IsOpening}
use Rattle.wh_event.specs.declared.event.Event.{Event}
use Rattle.wh_event.specs.declared.reply.Refusal.{Refusal}
use Rattle.wh_event.specs.declared.reply.Reply.{Reply}
use Rattle.wh_event.specs.declared.entry.Entry.{Entry}

-- a known agent with no steps left, which may be given something to do
pub record IsDue (s : State) (agent : ℕ) : Type 0 where
  pub known : IsKnown s agent
  pub resting : steps_left s.paths agent ≡ 0

-- A walk from where the agent is, for a duty, that avoids the cells where other paths end. Time plays no part.
pub record IsClearWay (g : Floor) (paths : List (List Cell)) (agent : ℕ) (Serves : List Cell → Type 0) (way : List Cell) : Type 0 where
  pub walk : IsWalk g way
  pub starts_here : at way 0 ≡ place_of paths agent
  pub clear : (k : ℕ) → ¬ Contains (ends (others paths agent)) (at way k)
  pub serves : Serves way

abbrev pub HasNoClearWay : Floor → List (List Cell) → ℕ → (List Cell → Type 0) → Type 0
HasNoClearWay g paths agent Serves = (way : List Cell) → ¬ IsClearWay g paths agent Serves way

-- the task that the agent takes: of those that it may take, the nearest one
abbrev pub IsNext : Site → State → ℕ → ℕ → Task → Type 0
IsNext site s agent n task = IsNearest site.grid s.tasks (other_ends s agent) (place_of s.paths agent) n task

-- there is none that it may take
abbrev pub NoneIsNext : State → ℕ → Type 0
NoneIsNext s agent = NoneEligible s.tasks (other_ends s agent)

-- the agent may park at the cell: a point where no open task is delivered and no other's path ends
pub record IsAllowed (site : Site) (s : State) (agent : ℕ) (cell : Cell) : Type 0 where
  pub point : IsPointCell site.layout cell
  pub no_delivery : ¬ IsDeliveryCell s cell
  pub no_end : ¬ Contains (other_ends s agent) cell

-- the agent has to make way: no task is there for it, and at its cell an open task is to be delivered
pub record MakesWay (s : State) (agent : ℕ) : Type 0 where
  pub none : NoneIsNext s agent
  pub in_the_way : IsDeliveryCell s (place_of s.paths agent)

-- when a request is refused: the agent is moving, or its duty has no clear way; all other refusals are as ever
abbrev pub Refuses : Site → State → Refusal → Event → Type 0
Refuses site s (Refusal.Moving left) (Event.Request agent) =
    IsKnown s agent × (left ≡ steps_left s.paths agent) × (left ≢ 0)
Refuses site s Refusal.NoPath (Event.Request agent) =
    IsDue s agent
    × (((n : ℕ) × (task : Task) × IsNext site s agent n task × HasNoClearWay site.grid s.paths agent (Delivers task.stops))
    ⊎ (MakesWay s agent × HasNoClearWay site.grid s.paths agent (ParksAt (IsAllowed site s agent))))
Refuses site s refusal event = core.Refuses site s refusal event

-- the replies to a due request, and the state after; all others are as ever
abbrev pub Answers : Site → State → Reply → Event → State → Type 0
Answers site old (Reply.Refused refusal) event new = Refuses site old refusal event × (new ≡ old)
Answers site old (Reply.Took n path) (Event.Request agent) new =
    IsDue old agent
    × ((task : Task) × IsNext site old agent n task
    × IsLawful site.grid site.layout.nofollow old.paths agent (length task.stops) (Delivers task.stops) path
    × (new ≡ arrived (adopted agent path (assigned agent n task old))))
Answers site old Reply.Rested (Event.Request agent) new =
    IsDue old agent × NoneIsNext old agent × (¬ IsDeliveryCell old (place_of old.paths agent)) × (new ≡ old)
Answers site old (Reply.Parked point path) (Event.Request agent) new =
    IsDue old agent × MakesWay old agent
    × IsLawful site.grid site.layout.nofollow old.paths agent 2 (ParksAt (IsAllowed site old agent)) path
    × IsPoint site.layout point (end path) × (new ≡ adopted agent path old)
Answers site old reply event new = core.Answers site old reply event new

abbrev pub Run : Site → State → List Entry → State → Type 0
Run site old [] new = new ≡ old
Run site old (entry ∷ entries) new = (mid : State) × Answers site old entry.reply entry.event mid × Run site mid entries new

-- Without homes, where all are on their ways, a step is one of these, and each of these is a step.
abbrev pub OrdinarySteps : Type 0
OrdinarySteps =
    (site : Site) (old : State) (reply : Reply) (event : Event) (new : State) → site.homes ≡ false → IsBeginning site old → AllOnTheirWays site old →
    (core.Answers site old reply event new ↔ Answers site old reply event new)

-- So of runs from an opening state.
abbrev pub OrdinaryRuns : Type 0
OrdinaryRuns =
    (site : Site) (old : State) (entries : List Entry) (new : State) → site.homes ≡ false → IsOpening site old →
    (core.Run site old entries new ↔ Run site old entries new)
