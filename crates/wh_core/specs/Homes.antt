-- what it gives that paths go on home
use Rattle.std.specs.Prelude.{◌≡◌, ℕ, ◌<◌, List, true, false, length, slice_index}
use Rattle.wh_grid.specs.declared.cell.Cell.{Cell}
use Rattle.wh_path.specs.Paths.{end_of}
use Rattle.wh_points.specs.declared.points.Kind.{Kind}
use Rattle.wh_points.specs.Points.{Site, home_of, point_at}
use Rattle.wh_tasks.specs.declared.task.Task.{Task}
use Rattle.wh_tasks.specs.Tasks.{IsTask, IsOpen}
use Rattle.wh_tasks.specs.Choice.{IsEligible}
use Rattle.wh_event.specs.declared.event.Event.{Event}
use Rattle.wh_event.specs.declared.entry.Entry.{Entry}
use Rattle.wh_event.specs.declared.reply.Reply.{Reply}
use Rattle.wh_core.specs.States.{State}
use Rattle.wh_core.specs.Steps.{Answers, IsDue, MakesWay, other_ends}
use Rattle.wh_core.specs.Laws.{IsReached, IsReachedOnTheirWays}

-- Paths go on home, and each agent starts at a parking, which is its home.
pub record HasHomes (site : Site) : Type 0 where
  pub rule : site.homes ≡ true
  pub parkings : (i : ℕ) → i < length site.layout.agents → (point_at site.layout.points (slice_index site.layout.agents i)).kind ≡ Kind.Parking

-- Once all are on their ways, each agent's path ends at its home.
abbrev pub EachComesHome : Type 0
EachComesHome =
    (site : Site) (entries : List Entry) (s : State) (i : ℕ) → site.homes ≡ true → IsReachedOnTheirWays site entries s → i < length s.paths →
    end_of s.paths i ≡ home_of site.layout i

-- No station is then held: each open task may be taken by each agent.
abbrev pub EachOpenTaskIsEligible : Type 0
EachOpenTaskIsEligible =
    (site : Site) (entries : List Entry) (s : State) (agent n : ℕ) (task : Task) → HasHomes site → IsReachedOnTheirWays site entries s → agent < length s.paths →
    IsTask s.tasks n task → IsOpen task → IsEligible s.tasks (other_ends s agent) n task

-- Nobody has to make way.
abbrev pub NoneMakesWay : Type 0
NoneMakesWay =
    (site : Site) (entries : List Entry) (s : State) (agent : ℕ) → site.homes ≡ true → IsReachedOnTheirWays site entries s → IsDue site s agent →
    ¬ MakesWay site s agent

-- So an agent is told to rest only if no task is open.
abbrev pub OnlyTheIdleRest : Type 0
OnlyTheIdleRest =
    (site : Site) (entries : List Entry) (s new : State) (agent n : ℕ) (task : Task) → HasHomes site → IsReachedOnTheirWays site entries s →
    Answers site s Reply.Rested (Event.Request agent) new → IsTask s.tasks n task → ¬ IsOpen task

-- The path of a task that is taken tells whether paths go on home: it ends at a parking, or at a station. So does it in any run.
abbrev pub OneRuleAlone : Type 0
OneRuleAlone =
    (site : Site) (entries : List Entry) (s new other : State) (agent n m : ℕ) (path : List Cell) → HasHomes site → IsReached site entries s →
    Answers site s (Reply.Took n path) (Event.Request agent) new →
    ¬ Answers (record site { homes = false }) s (Reply.Took m path) (Event.Request agent) other
