-- the steps of a warehouse in which all are on their ways (nobody was ever stopped), whether paths end at the last stop or go on home
use Rattle.std.specs.Prelude.{◌≡◌, ℕ, ◌↔◌, ◌⊎◌, false, length}
use Rattle.wh_path.specs.Paths.{end, place_of}
use Rattle.wh_points.specs.Points.{Site, IsPoint}
use Rattle.wh_tasks.specs.declared.task.Task.{Task}
use Rattle.wh_planner.specs.Duties.{Delivers, ParksAt, IsLawful, HasNoClearWay}
use Rattle.wh_core.specs.States.{State, arrived, adopted, assigned}
use Rattle.wh_core.specs.Steps as core
use Rattle.wh_core.specs.Steps.{IsDue, IsDeliveryCell, tour}
use Rattle.wh_core.specs.Ordinary as ordinary
use Rattle.wh_core.specs.Ordinary.{IsNext, NoneIsNext, IsAllowed}
use Rattle.wh_core.specs.Laws.{IsBeginning, AllOnTheirWays}
use Rattle.wh_event.specs.declared.event.Event.{Event}
use Rattle.wh_event.specs.declared.reply.Refusal.{Refusal}
use Rattle.wh_event.specs.declared.reply.Reply.{Reply}

-- the agent has to make way: paths end at the last stop, no task is there for it, and at its cell an open task is to be delivered
pub record MakesWay (site : Site) (s : State) (agent : ℕ) : Type 0 where
  pub ends_at_stops : site.homes ≡ false
  pub makes_way : ordinary.MakesWay s agent

-- the agent is in nobody's way: where paths go on home it never is, and else no open task is delivered at its cell
abbrev pub IsOutOfTheWay : Site → State → ℕ → Type 0
IsOutOfTheWay site s agent = site.homes ≡ false → ¬ IsDeliveryCell s (place_of s.paths agent)

-- when a due request is refused: what the agent is to do has no clear way; all other refusals are as ever
abbrev pub Refuses : Site → State → Refusal → Event → Type 0
Refuses site s Refusal.NoPath (Event.Request agent) =
    IsDue site s agent
    × (((n : ℕ) × (task : Task) × IsNext site s agent n task × HasNoClearWay site.grid s.paths agent (Delivers (tour site agent task.stops)))
    ⊎ (MakesWay site s agent × HasNoClearWay site.grid s.paths agent (ParksAt (IsAllowed site s agent))))
Refuses site s refusal event = core.Refuses site s refusal event

-- the replies to a due request, and the state after; all others are as ever
abbrev pub Answers : Site → State → Reply → Event → State → Type 0
Answers site old (Reply.Refused refusal) event new = Refuses site old refusal event × (new ≡ old)
-- it takes the nearest task that it may take, and goes through the stops, and then home if paths go on home
Answers site old (Reply.Took n path) (Event.Request agent) new =
    IsDue site old agent
    × ((task : Task) × IsNext site old agent n task
    × IsLawful site.grid site.layout.nofollow old.paths agent (length (tour site agent task.stops)) (Delivers (tour site agent task.stops)) path
    × (new ≡ arrived (adopted agent path (assigned agent n task old))))
Answers site old Reply.Rested (Event.Request agent) new =
    IsDue site old agent × NoneIsNext old agent × IsOutOfTheWay site old agent × (new ≡ old)
Answers site old (Reply.Parked point path) (Event.Request agent) new =
    IsDue site old agent × MakesWay site old agent
    × IsLawful site.grid site.layout.nofollow old.paths agent 2 (ParksAt (IsAllowed site old agent)) path
    × IsPoint site.layout point (end path) × (new ≡ adopted agent path old)
Answers site old reply event new = core.Answers site old reply event new

-- Where all are on their ways a step is one of these, and each of these is a step.
abbrev pub StepsOnTheirWays : Type 0
StepsOnTheirWays =
    (site : Site) (old : State) (reply : Reply) (event : Event) (new : State) → IsBeginning site old → AllOnTheirWays site old →
    (core.Answers site old reply event new ↔ Answers site old reply event new)
