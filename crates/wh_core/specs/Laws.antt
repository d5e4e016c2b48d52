-- the laws of a warehouse, over all its runs
use Rattle.std.specs.Prelude.{◌≡◌, ◌≢◌, ℕ, ◌+◌, ◌<◌, ◌≤◌, ◌↔◌, List, [], ◌∷◌, ◌++◌, true, Option, None, Some, length, take, drop, slice_get, slice_index, All}
use Rattle.wh_grid.specs.declared.cell.Cell.{Cell}
use Rattle.wh_grid.specs.Grids.{IsMove, IsPassable}
use Rattle.wh_path.specs.Paths.{end, cell_at, path_of, place_of, end_of, steps_left, IsWalk, AllFree}
use Rattle.wh_points.specs.Points.{Layout, Site, IsLayout, IsStation, IsPointCell}
use Rattle.wh_points.specs.Formed.{IsFormed}
use Rattle.wh_tasks.specs.declared.task.Load.{Load}
use Rattle.wh_tasks.specs.declared.task.Phase.{Phase}
use Rattle.wh_tasks.specs.declared.task.Task.{Task}
use Rattle.wh_tasks.specs.Tasks.{IsTask, IsOpen, phase, visited, stops_left}
use Rattle.wh_core.specs.States.{State, load_of, opened, arrived}
use Rattle.wh_planner.specs.Duties.{Delivers, ParksAt, IsLawful, IsClearWay}
use Rattle.wh_core.specs.Steps.{Answers, Step, Run, last_clock, most_tasks, IsDue, IsNext, IsAllowed, IsBerth, IsOwn, IsStray, MakesWay, tour}
use Rattle.wh_event.specs.declared.event.Event.{Event}
use Rattle.wh_event.specs.declared.entry.Entry.{Entry}
use Rattle.wh_event.specs.declared.reply.Reply.{Reply}
use Rattle.wh_event.specs.declared.reply.Refusal.{Refusal}

-- a state from which a warehouse may begin: the agents start at different points, with a planner's slots for each
pub record IsOpening (site : Site) (s : State) : Type 0 where
  pub layout : IsLayout site.grid site.layout
  pub clock : ℕ
  pub clock_fits : clock ≤ last_clock
  pub slots : List ℕ
  pub seats : length slots ≡ length site.layout.agents
  pub is_opened : s ≡ opened site.layout clock slots

-- There are as many paths, loads and slots as agents.
pub record HasSeats (site : Site) (s : State) : Type 0 where
  pub paths : length s.paths ≡ length site.layout.agents
  pub loads : length s.loads ≡ length site.layout.agents
  pub slots : length s.slots ≡ length site.layout.agents

-- some station stands at the cell
abbrev pub IsStationCell : Layout → Cell → Type 0
IsStationCell layout cell = (name : List ℕ) × IsStation layout name cell

-- the stops of a task: 2 to 8, and each a station as long as one is left to visit
pub record HasStops (layout : Layout) (task : Task) : Type 0 where
  pub count : 2 ≤ length task.stops
  pub few : length task.stops ≤ 8
  pub stations : visited task < length task.stops → (i : ℕ) → i < length task.stops → IsStationCell layout (cell_at task.stops i)

-- An agent fetches a task exactly where the task is assigned to it, and carries it with n visits exactly where it
-- is carried by it and has n.
pub record LoadsAgree (s : State) (agent : ℕ) : Type 0 where
  pub fetching : (n : ℕ) → (load_of s agent ≡ Load.Fetching n)
      ↔ ((task : Task) × IsTask s.tasks n task × (task.agent ≡ Some agent) × (phase task ≡ Phase.Assigned))
  pub carrying : (n seen : ℕ) → (load_of s agent ≡ Load.Carrying n seen)
      ↔ ((task : Task) × IsTask s.tasks n task × (task.agent ≡ Some agent) × (phase task ≡ Phase.Carried) × (visited task ≡ seen))

-- The clocks of a task lie in order: its submission, its visits one after another, and the clock of the state.
pub record IsTimed (clock : ℕ) (task : Task) : Type 0 where
  pub submitted : task.submitted ≤ clock
  pub first : (i : ℕ) → i < visited task → task.submitted ≤ slice_index task.visits i
  pub in_order : (i j : ℕ) → i ≤ j → j < visited task → slice_index task.visits i ≤ slice_index task.visits j
  pub last : (i : ℕ) → i < visited task → slice_index task.visits i ≤ clock

-- a task of a warehouse: its stops are stations, no more are visited than there are, and none while no agent has it; its
-- agent is known; and its clocks lie in order
pub record IsSoundTask (site : Site) (s : State) (task : Task) : Type 0 where
  pub stops : HasStops site.layout task
  pub few : visited task ≤ length task.stops
  pub fresh : IsOpen task → visited task ≡ 0
  pub known : (agent : ℕ) → task.agent ≡ Some agent → agent < length s.paths
  pub timed : IsTimed s.clock task

-- A state with which a warehouse may go on. Each agent goes by a walk from where it is, and any two walks are free of each
-- other for ever; tasks are as they should be, and loads tell what they tell; all arrivals have been made; and the limits
-- hold. Nothing is said of where walks end, nor that an agent's walk does what its load asks.
pub record IsSound (site : Site) (s : State) : Type 0 where
  pub seats : HasSeats site s
  pub few : length s.tasks ≤ most_tasks
  pub clock_fits : s.clock ≤ last_clock
  pub walks : (agent : ℕ) → agent < length s.paths → IsWalk site.grid (path_of s.paths agent)
  pub free : AllFree site.layout.nofollow s.paths
  pub tasks : (n : ℕ) (task : Task) → IsTask s.tasks n task → IsSoundTask site s task
  pub loads : (agent : ℕ) → agent < length s.paths → LoadsAgree s agent
  pub settled : arrived s ≡ s

-- a state from which a run may begin
pub record IsBeginning (site : Site) (s : State) : Type 0 where
  pub layout : IsLayout site.grid site.layout
  pub sound : IsSound site s

-- The agent is on its way: its path ends at a berth, and leads it through the stops that are left of its task, if it has one.
pub record IsOnItsWay (site : Site) (s : State) (agent : ℕ) : Type 0 where
  pub berth : IsBerth site agent (end_of s.paths agent)
  pub delivers : (n : ℕ) (task : Task) → IsOwn s agent n task → Delivers (tour site agent (stops_left task)) (path_of s.paths agent)

-- all agents are
abbrev pub AllOnTheirWays : Site → State → Type 0
AllOnTheirWays site s = (agent : ℕ) → agent < length s.paths → IsOnItsWay site s agent

-- a beginning at which all are on their ways
pub record IsBeginningOnTheirWays (site : Site) (s : State) : Type 0 where
  pub beginning : IsBeginning site s
  pub on_their_ways : AllOnTheirWays site s

-- the entries lead from a beginning to the state
pub record IsReached (site : Site) (entries : List Entry) (s : State) : Type 0 where
  pub opening : State
  pub is_beginning : IsBeginning site opening
  pub run : Run site opening entries s

-- the entries lead to the state from a beginning at which all were on their ways
pub record IsReachedOnTheirWays (site : Site) (entries : List Entry) (s : State) : Type 0 where
  pub reached : IsReached site entries s
  pub on_their_ways : AllOnTheirWays site reached.opening

-- An opening state is a beginning, at which all are on their ways.
abbrev pub OpeningsAreBeginnings : Type 0
OpeningsAreBeginnings = (site : Site) (s : State) → IsOpening site s → IsBeginning site s × AllOnTheirWays site s

-- Each state of a run is sound: from each state that is reached another run may begin.
abbrev pub EachStateIsABeginning : Type 0
EachStateIsABeginning = (site : Site) (entries : List Entry) (s : State) → IsReached site entries s → IsBeginning site s

-- An agent that is on its way stays so, whatever the others do.
abbrev pub WaysAreKept : Type 0
WaysAreKept =
    (site : Site) (entries : List Entry) (old : State) (entry : Entry) (new : State) (agent : ℕ) → IsReached site entries old →
    Step site old entry new → agent < length old.paths → IsOnItsWay site old agent → IsOnItsWay site new agent

-- An agent that is given a path for a task is on its way from then on.
abbrev pub TakersAreOnTheirWays : Type 0
TakersAreOnTheirWays =
    (site : Site) (entries : List Entry) (old : State) (n : ℕ) (path : List Cell) (agent : ℕ) (new : State) → IsReached site entries old →
    Answers site old (Reply.Took n path) (Event.Request agent) new → IsOnItsWay site new agent

-- Once all are on their ways they stay so.
abbrev pub AllStayOnTheirWays : Type 0
AllStayOnTheirWays = (site : Site) (entries : List Entry) (s : State) → IsReachedOnTheirWays site entries s → AllOnTheirWays site s

-- This holds in each state of a run.
abbrev pub SeatsStay : Type 0
SeatsStay = (site : Site) (entries : List Entry) (s : State) → IsReached site entries s → HasSeats site s

-- There are never more tasks than 1,000,000, and the clock is never above 1,000,000,000.
abbrev pub LimitsHold : Type 0
LimitsHold =
    (site : Site) (entries : List Entry) (s : State) → IsReached site entries s → (length s.tasks ≤ most_tasks) × (s.clock ≤ last_clock)

-- Two different agents, both known.
pub record AreTwo (s : State) (i j : ℕ) : Type 0 where
  pub first : i < length s.paths
  pub second : j < length s.paths
  pub differ : i ≢ j

-- In each state of a run any two agents' paths are free of each other, for ever.
abbrev pub PathsAreFree : Type 0
PathsAreFree = (site : Site) (entries : List Entry) (s : State) → IsReached site entries s → AllFree site.layout.nofollow s.paths

-- No two agents ever share a cell.
abbrev pub NoneShareACell : Type 0
NoneShareACell =
    (site : Site) (entries : List Entry) (s : State) (i j : ℕ) → IsReached site entries s → AreTwo s i j →
    place_of s.paths i ≢ place_of s.paths j

-- No two agents ever exchange their cells in one step.
abbrev pub NoneExchangeCells : Type 0
NoneExchangeCells =
    (site : Site) (entries : List Entry) (old : State) (entry : Entry) (new : State) (i j : ℕ) →
    IsReached site entries old → Step site old entry new → AreTwo old i j →
    ¬ ((place_of new.paths i ≡ place_of old.paths j) × (place_of new.paths j ≡ place_of old.paths i))

-- Under the rule, no agent enters in one step a cell that another leaves or keeps in that step.
abbrev pub NoneFollow : Type 0
NoneFollow =
    (site : Site) (entries : List Entry) (old : State) (entry : Entry) (new : State) (i j : ℕ) → site.layout.nofollow ≡ true →
    IsReached site entries old → Step site old entry new → AreTwo old i j → place_of new.paths i ≢ place_of old.paths j

-- In one step an agent goes to a neighbour of its cell or stays there, and is then on a passable cell.
abbrev pub EachStepIsAMove : Type 0
EachStepIsAMove =
    (site : Site) (entries : List Entry) (old : State) (entry : Entry) (new : State) (i : ℕ) → IsReached site entries old →
    Step site old entry new → i < length old.paths →
    IsMove (place_of old.paths i) (place_of new.paths i) × IsPassable site.grid (place_of new.paths i)

-- At an event that is not a tick all agents stay where they are.
abbrev pub OnlyTicksMove : Type 0
OnlyTicksMove =
    (site : Site) (old : State) (entry : Entry) (new : State) (i : ℕ) → Step site old entry new → entry.event ≢ Event.Tick →
    i < length old.paths → place_of new.paths i ≡ place_of old.paths i

-- The cells where the paths end are points.
abbrev pub EndsArePoints : Type 0
EndsArePoints =
    (site : Site) (entries : List Entry) (s : State) (i : ℕ) → IsReachedOnTheirWays site entries s → i < length s.paths →
    IsPointCell site.layout (end (path_of s.paths i))

-- The cells where two agents' paths end differ.
abbrev pub EndsDiffer : Type 0
EndsDiffer =
    (site : Site) (entries : List Entry) (s : State) (i j : ℕ) → IsReached site entries s → AreTwo s i j →
    end (path_of s.paths i) ≢ end (path_of s.paths j)

-- A phase stays or moves to a later one: open, assigned, carried, done.
abbrev pub IsForward : Phase → Phase → Type 0
IsForward Phase.Open later = Unit {0}
IsForward Phase.Assigned Phase.Assigned = Unit {0}
IsForward Phase.Assigned Phase.Carried = Unit {0}
IsForward Phase.Assigned Phase.Done = Unit {0}
IsForward Phase.Carried Phase.Carried = Unit {0}
IsForward Phase.Carried Phase.Done = Unit {0}
IsForward Phase.Done Phase.Done = Unit {0}
IsForward earlier later = ⊥

-- The task has gone on: what was submitted stays, its agent stays once it has one, its visits stay and more may follow,
-- and its phase goes forward.
pub record IsLater (old new : Task) : Type 0 where
  pub client : new.client ≡ old.client
  pub stops : new.stops ≡ old.stops
  pub submitted : new.submitted ≡ old.submitted
  pub agent : (a : ℕ) → old.agent ≡ Some a → new.agent ≡ Some a
  pub visits : (more : List ℕ) × (new.visits ≡ old.visits ++ more)
  pub forward : IsForward (phase old) (phase new)

-- Over a run a task only goes on: it is assigned at most once, and delivered only after it was picked up.
abbrev pub TasksGoForward : Type 0
TasksGoForward =
    (site : Site) (old : State) (entries : List Entry) (new : State) (n : ℕ) (task : Task) → Run site old entries new →
    IsTask old.tasks n task → (later : Task) × IsTask new.tasks n later × IsLater task later

-- After n entries of a run from old to new the agent was at the cell, and this was the clock.
pub record WasAt (site : Site) (old : State) (entries : List Entry) (new : State) (count : ℕ) (agent : Option ℕ) (cell : Cell) (clock : ℕ) : Type 0 where
  pub state : State
  pub before : Run site old (take count entries) state
  pub after : Run site state (drop count entries) new
  pub clock_is : state.clock ≡ clock
  pub number : ℕ
  pub agent_is : agent ≡ Some number
  pub place_is : place_of state.paths number ≡ cell

-- how many visits the task of a number has; none where there is no such task
abbrev pub visits_of : Option Task → ℕ
visits_of None = 0
visits_of (Some task) = visited task

-- The visits of a task from this number on were made in order: each of them in a state of the run, at its clock, where the
-- task's agent was at that stop; and none in an earlier state than the one before.
pub record VisitsWereMade (site : Site) (old : State) (entries : List Entry) (new : State) (task : Task) (first : ℕ) : Type 0 where
  pub when : ℕ → ℕ
  pub in_order : (i j : ℕ) → i ≤ j → when i ≤ when j
  pub there : (i : ℕ) → first ≤ i → i < visited task →
      WasAt site old entries new (when i) task.agent (cell_at task.stops i) (slice_index task.visits i)

-- In a run the visits of each task were made, but for those that it had before.
abbrev pub EachVisitWasMade : Type 0
EachVisitWasMade =
    (site : Site) (old : State) (entries : List Entry) (new : State) (n : ℕ) (task : Task) → Run site old entries new →
    IsTask new.tasks n task → VisitsWereMade site old entries new task (visits_of (slice_get old.tasks n))

-- This holds for each task, in each state of a run.
abbrev pub ClocksLieInOrder : Type 0
ClocksLieInOrder =
    (site : Site) (entries : List Entry) (s : State) (n : ℕ) (task : Task) → IsReached site entries s → IsTask s.tasks n task →
    IsTimed s.clock task

-- A task that is done has visited all its stops, and no task more stops than it has.
abbrev pub DoneIsAllVisited : Type 0
DoneIsAllVisited =
    (site : Site) (entries : List Entry) (s : State) (n : ℕ) (task : Task) → IsReached site entries s → IsTask s.tasks n task →
    (visited task ≤ length task.stops) × (phase task ≡ Phase.Done → visited task ≡ length task.stops)

-- An agent with no steps left has no load.
abbrev pub NoLoadAtRest : Type 0
NoLoadAtRest =
    (site : Site) (entries : List Entry) (s : State) (agent : ℕ) → IsReachedOnTheirWays site entries s → agent < length s.paths →
    steps_left s.paths agent ≡ 0 → load_of s agent ≡ Load.None

-- Loads and tasks tell the same of each agent, in each state of a run.
abbrev pub LoadsAndTasksAgree : Type 0
LoadsAndTasksAgree =
    (site : Site) (entries : List Entry) (s : State) (agent : ℕ) → IsReached site entries s → agent < length s.paths →
    LoadsAgree s agent

-- Arrivals change nothing more when they are applied again.
abbrev pub ArrivalsAreDoneAtOnce : Type 0
ArrivalsAreDoneAtOnce = (s : State) → arrived (arrived s) ≡ arrived s

-- In each state of a run all arrivals have been made.
abbrev pub NoneIsLeftToArrive : Type 0
NoneIsLeftToArrive = (site : Site) (entries : List Entry) (s : State) → IsReached site entries s → arrived s ≡ s

-- the number that a reply gives to a task, if it gives one, before these numbers
abbrev pub accepted_by : Reply → List ℕ → List ℕ
accepted_by (Reply.Accepted n) numbers = n ∷ numbers
accepted_by reply numbers = numbers

-- the numbers that were given to tasks, in order
abbrev pub accepted : List Entry → List ℕ
accepted [] = []
accepted (entry ∷ entries) = accepted_by entry.reply (accepted entries)

-- The numbers go on from a first one, one by one, up to a last one, which is not among them.
pub record CountFrom (first : ℕ) (numbers : List ℕ) (last : ℕ) : Type 0 where
  pub count : first + length numbers ≡ last
  pub each : (k : ℕ) → k < length numbers → slice_index numbers k ≡ first + k

-- Tasks are numbered in the order in which they are accepted, from the number of those that were there at the beginning.
abbrev pub TaskNumbersCountUp : Type 0
TaskNumbersCountUp =
    (site : Site) (entries : List Entry) (s : State) (r : IsReached site entries s) → CountFrom (length r.opening.tasks) (accepted entries) (length s.tasks)

-- Requests and replies determine the state: two runs of the same entries from one beginning lead to one state.
abbrev pub HistoryTellsTheState : Type 0
HistoryTellsTheState =
    (site : Site) (opening : State) (entries : List Entry) (one other : State) → IsBeginning site opening → Run site opening entries one →
    Run site opening entries other → one ≡ other

-- The replies differ at most in what the planner gave: the path, or that it found none.
abbrev pub AgreeButForPath : Reply → Reply → Type 0
AgreeButForPath (Reply.Took n path) (Reply.Took m other) = n ≡ m
AgreeButForPath (Reply.Took n path) (Reply.Refused Refusal.NoPath) = Unit {0}
AgreeButForPath (Reply.Refused Refusal.NoPath) (Reply.Took n path) = Unit {0}
AgreeButForPath (Reply.Parked point path) (Reply.Parked place other) = Unit {0}
AgreeButForPath (Reply.Parked point path) (Reply.Refused Refusal.NoPath) = Unit {0}
AgreeButForPath (Reply.Refused Refusal.NoPath) (Reply.Parked point path) = Unit {0}
AgreeButForPath one other = one ≡ other

-- The event is no request by a stray, which may go on or make way as its planner finds.
abbrev pub AsksNoStray : Site → State → Event → Type 0
AsksNoStray site s event = (agent : ℕ) → event ≡ Event.Request agent → IsDue site s agent → ¬ IsStray site s agent

-- In a state there is one reply to such an event, except for the path.
abbrev pub RepliesAgree : Type 0
RepliesAgree =
    (site : Site) (old : State) (event : Event) (one other : Reply) (a b : State) → IsLayout site.grid site.layout → AsksNoStray site old event →
    Answers site old one event a → Answers site old other event b → AgreeButForPath one other

-- A submit has 2 to 8 stops.
abbrev pub HasFitStops : Event → Type 0
HasFitStops (Event.Submit client stops) = (2 ≤ length stops) × (length stops ≤ 8)
HasFitStops event = Unit {0}

-- On a well-formed instance, in each state of a run, each event has an answer.
abbrev pub EveryEventIsAnswered : Type 0
EveryEventIsAnswered =
    (site : Site) (entries : List Entry) (s : State) (event : Event) → IsFormed site → IsReachedOnTheirWays site entries s → HasFitStops event →
    (reply : Reply) × (new : State) × Answers site s reply event new

-- The clock never falls.
abbrev pub ClockNeverFalls : Type 0
ClockNeverFalls = (site : Site) (old : State) (entries : List Entry) (new : State) → Run site old entries new → old.clock ≤ new.clock

-- After Close nothing changes, and each event is refused.
abbrev pub ClosedForGood : Type 0
ClosedForGood =
    (site : Site) (old : State) (entries : List Entry) (new : State) → old.closed ≡ true → Run site old entries new →
    (new ≡ old) × All (λ entry. entry.reply ≡ Reply.Refused Refusal.Closed) entries

-- The duty of a due agent: to deliver the task that comes next for it, or else to make way.
pub record HasWays (site : Site) (s : State) (agent : ℕ) : Type 0 where
  pub delivery : (n : ℕ) (task : Task) → IsNext site s agent n task → (way : List Cell) × IsClearWay site.grid s.paths agent (Delivers (tour site agent (stops_left task))) way
  pub parking : MakesWay site s agent → (way : List Cell) × IsClearWay site.grid s.paths agent (ParksAt (IsAllowed site s agent)) way

-- On a well-formed instance each due agent has a clear way for its duty, whichever it is.
abbrev pub DutiesHaveClearWays : Type 0
DutiesHaveClearWays =
    (site : Site) (entries : List Entry) (s : State) (agent : ℕ) → IsFormed site → IsReachedOnTheirWays site entries s → IsDue site s agent →
    HasWays site s agent

-- So on a well-formed instance no event of a run is refused for lack of a path.
abbrev pub NoneIsRefusedAPath : Type 0
NoneIsRefusedAPath =
    (site : Site) (entries : List Entry) (s : State) → IsFormed site → IsReachedOnTheirWays site entries s →
    All (λ entry. entry.reply ≢ Reply.Refused Refusal.NoPath) entries

-- Where a due agent has a clear way for a delivery, it has a lawful path: it goes on by its own until the others rest, and then
-- the clear way, with each leg cut short.
abbrev pub ClearDeliveriesAreLawful : Type 0
ClearDeliveriesAreLawful =
    (site : Site) (entries : List Entry) (s : State) (agent : ℕ) (stops way : List Cell) → IsReached site entries s → IsDue site s agent →
    1 ≤ length stops → IsClearWay site.grid s.paths agent (Delivers stops) way →
    (path : List Cell) × IsLawful site.grid site.layout.nofollow s.paths agent (length stops) (Delivers stops) path

-- The same for parking.
abbrev pub ClearParkingsAreLawful : Type 0
ClearParkingsAreLawful =
    (site : Site) (entries : List Entry) (s : State) (agent : ℕ) (way : List Cell) → IsReached site entries s → IsDue site s agent →
    IsClearWay site.grid s.paths agent (ParksAt (IsAllowed site s agent)) way →
    (path : List Cell) × IsLawful site.grid site.layout.nofollow s.paths agent 2 (ParksAt (IsAllowed site s agent)) path
