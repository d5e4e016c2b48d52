-- that everything is delivered, within a bound
use Rattle.std.specs.Prelude.{◌≡◌, ℕ, ◌+◌, ◌*◌, ◌<◌, ◌≤◌, ◌⊎◌, List, false, length, All}
use Rattle.wh_grid.specs.Grids.{passable_cells}
use Rattle.wh_path.specs.Paths.{horizon}
use Rattle.wh_points.specs.Points.{Site}
use Rattle.wh_points.specs.Formed.{IsFormed}
use Rattle.wh_tasks.specs.declared.task.Task.{Task}
use Rattle.wh_tasks.specs.declared.task.Phase.{Phase}
use Rattle.wh_tasks.specs.Tasks.{IsTask, IsOpen, phase}
use Rattle.wh_core.specs.States.{State}
use Rattle.wh_core.specs.Steps.{Step, Run, IsDue, last_clock}
use Rattle.wh_core.specs.Laws.{IsOpening, IsBeginningOnTheirWays, IsReachedOnTheirWays}
use Rattle.wh_core.specs.Homes.{HasHomes}
use Rattle.wh_event.specs.declared.entry.Entry.{Entry}
use Rattle.wh_progress.specs.Progress.{span, left_to_do, first_paths_left, open_tasks, HaveAtMost, AreOfTwoPlaces, HasAsked, FindPaths, IsRound, Rounds, StandsStill, StoodStill, IsHeld, AllDone}

-- No order can stand still for good: paths go on home to parkings, or each task has its stops at two cells at most.
abbrev pub NoneCanStand : Site → State → Type 0
NoneCanStand site s = HasHomes site ⊎ ((site.homes ≡ false) × AreOfTwoPlaces s)

-- So on a well-formed instance all tasks are done after as many rounds as are left to do, whatever paths the planners find.
abbrev pub AllIsDelivered : Type 0
AllIsDelivered =
    (site : Site) (stops : ℕ) (before : List Entry) (s new : State) (rounds : List (List Entry)) → IsFormed site →
    0 < length site.layout.agents → IsReachedOnTheirWays site before s → Rounds site s rounds new → length new.tasks ≡ length s.tasks →
    HaveAtMost stops new → NoneCanStand site new → left_to_do site stops s ≤ length rounds → AllDone new

-- While tasks keep coming, too: those that were there are done after three spans of rounds more for each that was added meanwhile.
abbrev pub EachIsDeliveredMeanwhile : Type 0
EachIsDeliveredMeanwhile =
    (site : Site) (stops : ℕ) (before : List Entry) (s new : State) (rounds : List (List Entry)) (added n : ℕ) (task : Task) →
    IsFormed site → 0 < length site.layout.agents → IsReachedOnTheirWays site before s → Rounds site s rounds new →
    length new.tasks ≡ length s.tasks + added → HaveAtMost stops new → NoneCanStand site new →
    left_to_do site stops s + 3 * span site stops * added ≤ length rounds →
    IsTask s.tasks n task → (later : Task) × IsTask new.tasks n later × (phase later ≡ Phase.Done)

-- Without homes the bound in numbers: where each task has its stops at two cells at most, all tasks are done after two spans of rounds
-- for each agent and each open task, and the steps that are left of the paths with which the run began.
abbrev pub AllIsDeliveredWithin : Type 0
AllIsDeliveredWithin =
    (site : Site) (stops : ℕ) (beginning : State) (before : List Entry) (s new : State) (rounds : List (List Entry)) → site.homes ≡ false →
    IsFormed site → 0 < length site.layout.agents → IsBeginningOnTheirWays site beginning → Run site beginning before s → Rounds site s rounds new →
    length new.tasks ≡ length s.tasks → HaveAtMost stops new → AreOfTwoPlaces new →
    2 * span site stops * (length site.layout.agents + open_tasks s) + first_paths_left beginning s ≤ length rounds → AllDone new

-- While tasks keep coming, too: three spans of rounds more for each that was added meanwhile.
abbrev pub EachIsDeliveredWithin : Type 0
EachIsDeliveredWithin =
    (site : Site) (stops : ℕ) (beginning : State) (before : List Entry) (s new : State) (rounds : List (List Entry)) (added n : ℕ) (task : Task) →
    site.homes ≡ false → IsFormed site → 0 < length site.layout.agents → IsBeginningOnTheirWays site beginning → Run site beginning before s →
    Rounds site s rounds new → length new.tasks ≡ length s.tasks + added → HaveAtMost stops new → AreOfTwoPlaces new →
    2 * span site stops * (length site.layout.agents + open_tasks s) + first_paths_left beginning s + 3 * span site stops * added ≤ length rounds →
    IsTask s.tasks n task → (later : Task) × IsTask new.tasks n later × (phase later ≡ Phase.Done)

-- Tasks of two stops are so.
abbrev pub TwoStopsAreTwoPlaces : Type 0
TwoStopsAreTwoPlaces = (s : State) → HaveAtMost 2 s → AreOfTwoPlaces s

-- Each round in which no request is refused for lack of a path brings down what is left to do, or all stands still as it begins. (A
-- task that is added in it adds three spans.)
abbrev pub EachRoundBrings : Type 0
EachRoundBrings =
    (site : Site) (stops : ℕ) (before entries : List Entry) (s new : State) (added : ℕ) → IsReachedOnTheirWays site before s → IsRound site s entries new →
    FindPaths entries → HaveAtMost stops new → length new.tasks ≡ length s.tasks + added →
    (left_to_do site stops new < left_to_do site stops s + 3 * span site stops * added) ⊎ StandsStill site s

-- So all stands still after as many such rounds as are left to do, with three spans for each task that is added.
abbrev pub AllComesToRest : Type 0
AllComesToRest =
    (site : Site) (stops : ℕ) (before : List Entry) (s new : State) (rounds : List (List Entry)) (added : ℕ) → IsReachedOnTheirWays site before s →
    Rounds site s rounds new → All FindPaths rounds → HaveAtMost stops new → length new.tasks ≡ length s.tasks + added →
    left_to_do site stops s + 3 * span site stops * added ≤ length rounds → StoodStill site s rounds new

-- On a well-formed instance all rounds are such rounds.
abbrev pub RoundsFindPaths : Type 0
RoundsFindPaths =
    (site : Site) (before : List Entry) (s new : State) (rounds : List (List Entry)) → IsFormed site → IsReachedOnTheirWays site before s →
    Rounds site s rounds new → All FindPaths rounds

-- Without homes, where all stands still, each task is done, or it is open and two agents are at two of its stops, neither at its last.
abbrev pub OnlyHeldTasksStand : Type 0
OnlyHeldTasksStand =
    (site : Site) (entries : List Entry) (s : State) (n : ℕ) (task : Task) → site.homes ≡ false → 0 < length site.layout.agents → IsReachedOnTheirWays site entries s →
    StandsStill site s → IsTask s.tasks n task → (phase task ≡ Phase.Done) ⊎ (IsOpen task × IsHeld s task)

-- Where none can stand for good, all stands still only when all tasks are done.
abbrev pub StillIsDone : Type 0
StillIsDone =
    (site : Site) (entries : List Entry) (s : State) → 0 < length site.layout.agents → IsReachedOnTheirWays site entries s → NoneCanStand site s →
    StandsStill site s → AllDone s

-- Without homes, what is left to do is at most two spans for each agent and each open task, and the steps that are left of the paths with
-- which the run began.
abbrev pub LeftIsBounded : Type 0
LeftIsBounded =
    (site : Site) (stops : ℕ) (beginning : State) (entries : List Entry) (s : State) → site.homes ≡ false → IsBeginningOnTheirWays site beginning →
    Run site beginning entries s → HaveAtMost stops s →
    left_to_do site stops s ≤ 2 * span site stops * (length site.layout.agents + open_tasks s) + first_paths_left beginning s

-- No agent has then more steps left than those, and a pass over the map for each agent and each stop of a task.
abbrev pub HorizonIsBounded : Type 0
HorizonIsBounded =
    (site : Site) (stops : ℕ) (beginning : State) (entries : List Entry) (s : State) → site.homes ≡ false → IsBeginningOnTheirWays site beginning →
    Run site beginning entries s → HaveAtMost stops s →
    horizon s.paths ≤ length site.layout.agents * (stops * passable_cells site.grid) + first_paths_left beginning s

-- Of the paths with which a run from an opening state began nothing is left: the agents stand there.
abbrev pub OpeningsStand : Type 0
OpeningsStand = (site : Site) (opening s : State) → IsOpening site opening → first_paths_left opening s ≡ 0

-- No step raises what is left to do, but for three spans at most where it adds a task.
abbrev pub OnlyTasksAdd : Type 0
OnlyTasksAdd =
    (site : Site) (stops : ℕ) (entries : List Entry) (s : State) (entry : Entry) (new : State) (added : ℕ) → IsReachedOnTheirWays site entries s →
    Step site s entry new → HaveAtMost stops new → length new.tasks ≡ length s.tasks + added →
    left_to_do site stops new ≤ left_to_do site stops s + 3 * span site stops * added

-- On a well-formed instance rounds can always be had: from each state of a run that is not closed, as many as ticks are left to the
-- clock, and no task is added in them.
abbrev pub RoundsCanBeHad : Type 0
RoundsCanBeHad =
    (site : Site) (before : List Entry) (s : State) (count : ℕ) → IsFormed site → IsReachedOnTheirWays site before s → s.closed ≡ false →
    s.clock + count ≤ last_clock →
    (rounds : List (List Entry)) × (new : State) × (length rounds ≡ count) × Rounds site s rounds new × (length new.tasks ≡ length s.tasks)

-- A due agent stays due until it asks, or the warehouse is closed. So rounds are found in any run: who was due at a tick, and not asked
-- before the next one, is due there.
abbrev pub DueUntilAsked : Type 0
DueUntilAsked =
    (site : Site) (s : State) (entries : List Entry) (new : State) (agent : ℕ) → Run site s entries new → new.closed ≡ false → IsDue site s agent →
    IsDue site new agent ⊎ HasAsked entries agent
