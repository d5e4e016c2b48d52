-- the steps of a warehouse: which reply an event may get in a state, and which state is next; and runs of steps
use Rattle.std.specs.Prelude.{◌≡◌, ◌≢◌, ℕ, ◌+◌, ◌<◌, ◌≤◌, ◌⊎◌, List, [], ◌∷◌, ◌++◌, Bool, true, false, Some, length, All, Contains}
use Prim.Native.Nat.{zero, suc}
use Rattle.std.specs.List.{AllZip}
use Rattle.wh_grid.specs.declared.cell.Cell.{Cell}
use Rattle.wh_path.specs.Paths.{end, path_of, place_of, end_of, steps_left, others, ends}
use Rattle.wh_points.specs.Points.{Layout, Site, IsStation, IsParking, IsPoint, IsPointCell, home_of}
use Rattle.wh_tasks.specs.declared.task.Task.{Task}
use Rattle.wh_tasks.specs.declared.task.Load.{Load}
use Rattle.wh_tasks.specs.Tasks.{IsTask, IsOpen, visited, stops_left, delivery}
use Rattle.wh_tasks.specs.Choice.{NoneEligible, IsNearest}
use Rattle.wh_planner.specs.Duties.{Delivers, ParksAt, IsLawful, HasNoClearWay}
use Rattle.wh_core.specs.States.{State, load_of, arrived, picked, dropped, submitted, adopted, assigned, moved, reseated, shut}
use Rattle.wh_event.specs.declared.event.Spare.{Spare}
use Rattle.wh_event.specs.declared.event.Event.{Event}
use Rattle.wh_event.specs.declared.reply.Refusal.{Refusal}
use Rattle.wh_event.specs.declared.reply.Reply.{Reply}
use Rattle.wh_event.specs.declared.entry.Entry.{Entry}

-- the greatest number of tasks
abbrev pub most_tasks : ℕ
most_tasks = 1000000

-- the greatest clock
abbrev pub last_clock : ℕ
last_clock = 1000000000

-- an open warehouse knows the agent
pub record IsKnown (s : State) (agent : ℕ) : Type 0 where
  pub not_closed : s.closed ≡ false
  pub known : agent < length s.paths

-- the agent has nothing to do: it has no steps left; or, where paths go on home, no task, and it may still walk
abbrev pub IsIdle : Site → State → ℕ → Type 0
IsIdle site s agent = (steps_left s.paths agent ≡ 0) ⊎ ((site.homes ≡ true) × (load_of s agent ≡ Load.None))

-- If nothing else happens, it is idle after so many ticks, and not before.
abbrev pub IsIdleIn : Site → State → ℕ → ℕ → Type 0
IsIdleIn site s agent zero = IsIdle site s agent
IsIdleIn site s agent (suc k) = (¬ IsIdle site s agent) × IsIdleIn site (arrived (moved s)) agent k

-- a known agent that is idle, which may be given something to do
pub record IsDue (site : Site) (s : State) (agent : ℕ) : Type 0 where
  pub known : IsKnown s agent
  pub idle : IsIdle site s agent

-- through the stops, and then home if paths go on home
abbrev pub homeward : Bool → Cell → List Cell → List Cell
homeward false home stops = stops
homeward true home stops = stops ++ home ∷ []

-- where an agent goes for these stops
abbrev pub tour : Site → ℕ → List Cell → List Cell
tour site agent stops = homeward site.homes (home_of site.layout agent) stops

-- the agent may come to rest at the cell: at a point; and, where paths go on home, only at its home
pub record IsBerth (site : Site) (agent : ℕ) (cell : Cell) : Type 0 where
  pub point : IsPointCell site.layout cell
  pub own : site.homes ≡ true → cell ≡ home_of site.layout agent

-- the cells where the paths of the others end
abbrev pub other_ends : State → ℕ → List Cell
other_ends s agent = ends (others s.paths agent)

-- the agent has the task of this number, and some of its stops are left
pub record IsOwn (s : State) (agent n : ℕ) (task : Task) : Type 0 where
  pub there : IsTask s.tasks n task
  pub agent_is : task.agent ≡ Some agent
  pub left : visited task < length task.stops

-- the task that an agent with this load takes: its own, if it has one, and else the nearest of those that it may take
abbrev pub IsNextBy : Load → Site → State → ℕ → ℕ → Task → Type 0
IsNextBy Load.None site s agent n task = IsNearest site.grid s.tasks (other_ends s agent) (place_of s.paths agent) n task
IsNextBy (Load.Fetching m) site s agent n task = (n ≡ m) × IsOwn s agent n task
IsNextBy (Load.Carrying m seen) site s agent n task = (n ≡ m) × IsOwn s agent n task

abbrev pub IsNext : Site → State → ℕ → ℕ → Task → Type 0
IsNext site s agent n task = IsNextBy (load_of s agent) site s agent n task

-- it has none, and there is none that it may take
abbrev pub NoneIsNext : State → ℕ → Type 0
NoneIsNext s agent = (load_of s agent ≡ Load.None) × NoneEligible s.tasks (other_ends s agent)

-- an open task is to be delivered at the cell
abbrev pub IsDeliveryCell : State → Cell → Type 0
IsDeliveryCell s cell = (n : ℕ) × (task : Task) × IsTask s.tasks n task × IsOpen task × (delivery task ≡ cell)

-- the agent of the task was stopped: stops are left, and its path does not lead through them
pub record IsHalted (site : Site) (s : State) (n : ℕ) (task : Task) : Type 0 where
  pub agent : ℕ
  pub own : IsOwn s agent n task
  pub halts : ¬ Delivers (tour site agent (stops_left task)) (path_of s.paths agent)

-- a stop that is left to an agent that was stopped is at the cell
abbrev pub IsAwaited : Site → State → Cell → Type 0
IsAwaited site s cell = (n : ℕ) × (task : Task) × IsHalted site s n task × Contains (stops_left task) cell

-- The cell is wanted: an open task is to be delivered there, or an agent that was stopped is to go there. (Where paths go on home
-- nobody comes to rest but at home, so none need be kept free.)
abbrev pub IsWanted : Site → State → Cell → Type 0
IsWanted site s cell = (site.homes ≡ false) × (IsDeliveryCell s cell ⊎ IsAwaited site s cell)

-- the agent may stay at rest at the cell: a berth of its that is not wanted
pub record IsRestCell (site : Site) (s : State) (agent : ℕ) (cell : Cell) : Type 0 where
  pub berth : IsBerth site agent cell
  pub not_wanted : ¬ IsWanted site s cell

-- the agent may park at the cell: it may rest there, and no other's path ends there
pub record IsAllowed (site : Site) (s : State) (agent : ℕ) (cell : Cell) : Type 0 where
  pub rest : IsRestCell site s agent cell
  pub no_end : ¬ Contains (other_ends s agent) cell

-- A stray: the agent has a task though it is idle, or its path ends at no berth of its.
abbrev pub IsStray : Site → State → ℕ → Type 0
IsStray site s agent = (load_of s agent ≢ Load.None) ⊎ (¬ IsBerth site agent (end_of s.paths agent))

-- a stray that has no clear way through the stops of its next task
pub record IsShutIn (site : Site) (s : State) (agent : ℕ) : Type 0 where
  pub stray : IsStray site s agent
  pub number : ℕ
  pub task : Task
  pub next : IsNext site s agent number task
  pub no_way : HasNoClearWay site.grid s.paths agent (Delivers (tour site agent (stops_left task)))

-- the agent has to make way: no task is there for it, or it is a stray with no way to do its next; and the cell where its path
-- ends is wanted, or is no berth of its
pub record MakesWay (site : Site) (s : State) (agent : ℕ) : Type 0 where
  pub no_work : NoneIsNext s agent ⊎ IsShutIn site s agent
  pub in_the_way : IsWanted site s (end_of s.paths agent) ⊎ (¬ IsBerth site agent (end_of s.paths agent))

-- a station has the name
abbrev pub IsStationName : Layout → List ℕ → Type 0
IsStationName layout name = (cell : Cell) × IsStation layout name cell

-- a parking has the name
abbrev pub IsParkingName : Layout → List ℕ → Type 0
IsParkingName layout name = (cell : Cell) × IsParking layout name cell

-- no point has the name
abbrev pub IsUnknownName : Layout → List ℕ → Type 0
IsUnknownName layout name = (cell : Cell) → ¬ IsPoint layout name cell

-- it stands among the stops, and each stop before it is a station's name
abbrev pub IsFirstFault : Layout → List (List ℕ) → List ℕ → Type 0
IsFirstFault layout stops name =
    (before : List (List ℕ)) × (after : List (List ℕ)) × (stops ≡ before ++ name ∷ after) × All (IsStationName layout) before

-- When each refusal comes. A closed warehouse refuses every event, and each other refusal comes while it is open: to a
-- submit by the first of its stops that is no station, or else since there is no room; to a request by an agent that is not
-- idle, with the number of ticks until it is, or since its duty has no clear way, and neither has making way for a stray that
-- is in the way.
abbrev pub Refuses : Site → State → Refusal → Event → Type 0
Refuses site s Refusal.Closed event = s.closed ≡ true
Refuses site s (Refusal.UnknownPoint name) (Event.Submit client stops) =
    (s.closed ≡ false) × IsFirstFault site.layout stops name × IsUnknownName site.layout name
Refuses site s (Refusal.NotStation name) (Event.Submit client stops) =
    (s.closed ≡ false) × IsFirstFault site.layout stops name × IsParkingName site.layout name
Refuses site s Refusal.TasksFull (Event.Submit client stops) =
    (s.closed ≡ false) × All (IsStationName site.layout) stops × (length s.tasks ≡ most_tasks)
Refuses site s (Refusal.UnknownAgent told) (Event.Request agent) = (s.closed ≡ false) × (length s.paths ≤ agent) × (told ≡ agent)
Refuses site s (Refusal.Moving left) (Event.Request agent) =
    IsKnown s agent × IsIdleIn site s agent left × (left ≢ 0)
Refuses site s Refusal.NoPath (Event.Request agent) =
    IsDue site s agent
    × (((n : ℕ) × (task : Task) × IsNext site s agent n task
    × HasNoClearWay site.grid s.paths agent (Delivers (tour site agent (stops_left task)))
    × (((load_of s agent ≡ Load.None) × IsBerth site agent (end_of s.paths agent)) ⊎ IsRestCell site s agent (end_of s.paths agent)))
    ⊎ (MakesWay site s agent × HasNoClearWay site.grid s.paths agent (ParksAt (IsAllowed site s agent))))
Refuses site s Refusal.ClockFull Event.Tick = (s.closed ≡ false) × (s.clock ≡ last_clock)
Refuses site s (Refusal.UnknownAgent told) (Event.Replace agent spare) =
    (s.closed ≡ false) × (length s.paths ≤ agent) × (told ≡ agent)
Refuses site s Refusal.NoSpare (Event.Replace agent Spare.None) = IsKnown s agent
Refuses site s Refusal.ForeignPlanner (Event.Replace agent Spare.Foreign) = IsKnown s agent
-- no other refusal is given
Refuses site s refusal event = ⊥

-- From old, the warehouse may give this reply to the event and go on to new. What is refused changes nothing. (The reply
-- stands first, so that a refusal computes at any event.)
abbrev pub Answers : Site → State → Reply → Event → State → Type 0
Answers site old (Reply.Refused refusal) event new = Refuses site old refusal event × (new ≡ old)
-- a submit of 2 to 8 stations adds a task, with the next number
Answers site old (Reply.Accepted n) (Event.Submit client stops) new =
    (old.closed ≡ false) × (n ≡ length old.tasks) × (n < most_tasks) × (2 ≤ length stops) × (length stops ≤ 8)
    × ((cells : List Cell) × AllZip (IsStation site.layout) stops cells × (new ≡ submitted client cells old))
-- a due agent takes its next task, adopts a lawful path through the stops that are left, in place of what is left of its own, and
-- may arrive at once
Answers site old (Reply.Took n path) (Event.Request agent) new =
    IsDue site old agent
    × ((task : Task) × IsNext site old agent n task
    × IsLawful site.grid site.layout.nofollow old.paths agent (length (tour site agent task.stops)) (Delivers (tour site agent (stops_left task))) path
    × (new ≡ arrived (adopted agent path (assigned agent n task old))))
-- it rests if there is none and it is in nobody's way
Answers site old Reply.Rested (Event.Request agent) new =
    IsDue site old agent × NoneIsNext old agent × IsRestCell site old agent (end_of old.paths agent) × (new ≡ old)
-- in somebody's way, or not at a berth, it goes to one where it may park, by a lawful path
Answers site old (Reply.Parked point path) (Event.Request agent) new =
    IsDue site old agent × MakesWay site old agent
    × IsLawful site.grid site.layout.nofollow old.paths agent 2 (ParksAt (IsAllowed site old agent)) path
    × IsPoint site.layout point (end path) × (new ≡ adopted agent path old)
-- a tick moves each agent one step along its path, and tells how many tasks were picked up and delivered
Answers site old (Reply.Clock now first last) Event.Tick new =
    (old.closed ≡ false) × (old.clock < last_clock) × (now ≡ old.clock + 1)
    × (first ≡ picked (moved old)) × (last ≡ dropped (moved old)) × (new ≡ arrived (moved old))
-- a planner that fits takes the place of the agent's
Answers site old (Reply.Replaced slots) (Event.Replace agent (Spare.Fits count)) new =
    IsKnown old agent × (slots ≡ count) × (new ≡ reseated agent count old)
-- once closed, it stays as it is
Answers site old Reply.Closed Event.Close new = (old.closed ≡ false) × (new ≡ shut old)
-- no other reply is given
Answers site old reply event new = ⊥

-- one step of the warehouse; callers do not matter
abbrev pub Step : Site → State → Entry → State → Type 0
Step site old entry new = Answers site old entry.reply entry.event new

-- these entries, one step after another, lead from old to new
abbrev pub Run : Site → State → List Entry → State → Type 0
Run site old [] new = new ≡ old
Run site old (entry ∷ entries) new = (mid : State) × Step site old entry mid × Run site mid entries new
