-- what is judged of a log's entries
use Rattle.std.specs.Prelude.{◌≡◌, ◌⊎◌, ℕ, List, Bool, true, false, Option, Some, None}
use Rattle.wh_points.specs.Points.{Site, IsLayout}
use Rattle.wh_tasks.specs.declared.task.Load.{Load}
use Rattle.wh_tasks.specs.declared.task.Task.{Task}
use Rattle.wh_tasks.specs.Tasks.{IsTask, stops_left}
use Rattle.wh_event.specs.declared.event.Event.{Event}
use Rattle.wh_event.specs.declared.entry.Entry.{Entry}
use Rattle.wh_core.specs.Laws.{IsReached}
use Rattle.wh_event.specs.declared.reply.Reply.{Reply}
use Rattle.wh_core.specs.States.{State, load_of}
use Rattle.wh_core.specs.Steps.{Answers, Step, IsNext, NoneIsNext, IsAllowed, IsBerth, IsRestCell, MakesWay, other_ends, tour}
use Rattle.wh_planner.specs.Duties.{Delivers, ParksAt, IsClearWay, HasNoClearWay, HasRoute}
use Rattle.wh_grid.specs.declared.cell.Cell.{Cell}
use Rattle.wh_path.specs.Paths.{end_of}

-- to no state does the reply to the event lead from here
abbrev pub NoAnswer : Site → State → Reply → Event → Type 0
NoAnswer site old reply event = (new : State) → ¬ Answers site old reply event new

-- Yes: the reply may be given to the event, and leads to the new state. No: it may not, whatever the new state.
abbrev pub Decides : Site → State → Reply → Event → State → Bool → Type 0
Decides site old reply event new true = Answers site old reply event new
Decides site old reply event new false = NoAnswer site old reply event

-- the task that the agent takes, or that there is none for it
abbrev pub IsChoice : Site → State → ℕ → Option ℕ → Type 0
IsChoice site s agent None = NoneIsNext s agent
IsChoice site s agent (Some n) = (task : Task) × IsNext site s agent n task

-- some run leads to the state
abbrev pub IsReachable : Site → State → Type 0
IsReachable site s = (entries : List Entry) × IsReached site entries s

-- a clear way leads the agent through the stops that are left of the task of this number
abbrev pub CanDeliver : Site → State → ℕ → ℕ → Type 0
CanDeliver site s agent n =
    (task : Task) × IsTask s.tasks n task × ((way : List Cell) × IsClearWay site.grid s.paths agent (Delivers (tour site agent (stops_left task))) way)

-- the agent may stay where its path ends: it has no task and that is a berth of its, or it is in nobody's way there
abbrev pub MayStay : Site → State → ℕ → Type 0
MayStay site s agent =
    ((load_of s agent ≡ Load.None) × IsBerth site agent (end_of s.paths agent)) ⊎ IsRestCell site s agent (end_of s.paths agent)

-- the agent has a task before it and no clear way to deliver it, and may stay where it is
abbrev pub LacksDelivery : Site → State → ℕ → Type 0
LacksDelivery site s agent =
    (n : ℕ) × (task : Task) × IsNext site s agent n task
    × HasNoClearWay site.grid s.paths agent (Delivers (tour site agent (stops_left task))) × MayStay site s agent

-- the agent has to make way, and no clear way to a cell where it may
abbrev pub LacksParking : Site → State → ℕ → Type 0
LacksParking site s agent = MakesWay site s agent × HasNoClearWay site.grid s.paths agent (ParksAt (IsAllowed site s agent))

-- a route leads from where the agent's path ends, round the ends of the others', to a cell where it may park
abbrev pub CanPark : Site → State → ℕ → Type 0
CanPark site s agent = (cell : Cell) × IsAllowed site s agent cell × HasRoute site.grid (other_ends s agent) (end_of s.paths agent) cell

-- what callers see of a judge: the site and the state
pub record Judged : Type 0 where
  pub site : Site
  pub state : State

-- Yes: the entry is a step from the old state to the new one. No: it is a step from the old state to none.
abbrev pub IsStep : Site → State → Entry → State → Bool → Type 0
IsStep site old entry new true = Step site old entry new
IsStep site old entry new false = (other : State) → ¬ Step site old entry other

-- An entry leads from a state to one state at most.
abbrev pub OneStateFollows : Type 0
OneStateFollows =
    (site : Site) (old : State) (entry : Entry) (one other : State) → IsLayout site.grid site.layout → Step site old entry one → Step site old entry other →
    one ≡ other
