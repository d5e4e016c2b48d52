-- parts without a flaw, what sound states have to do with them, and what is said of a refusal
use Rattle.std.specs.Prelude.{◌≡◌, ◌≢◌, ℕ, ◌<◌, ◌≤◌, List, ◌++◌, length}
use Rattle.wh_grid.specs.declared.cell.Cell.{Cell}
use Rattle.wh_path.specs.Paths.{cell_at, path_of, place_of, IsWalk, AllFree}
use Rattle.wh_points.specs.Points.{Site}
use Rattle.wh_tasks.specs.declared.task.Task.{Task}
use Rattle.wh_tasks.specs.Tasks.{IsTask, stops_left}
use Rattle.wh_core.specs.States.{State}
use Rattle.wh_core.specs.Steps.{IsOwn, last_clock, most_tasks}
use Rattle.wh_core.specs.Laws.{IsSound, IsSoundTask, IsBeginning}
use Rattle.wh_stand.specs.declared.flaw.Flaw.{Flaw}
use Rattle.wh_stand.specs.declared.flaw.Refused.{Refused}
use Rattle.wh_stand.specs.declared.flaw.Refused.TheVariants as refused
use Rattle.wh_stand.specs.Parts.{Parts, state_of, parts_of}
use Rattle.wh_stand.specs.PathFlaws.{IsFit, IsPathFlaw}

-- Parts that have no flaw, as far as they go. Each agent goes by a walk, and any two walks are free of each other for ever; each
-- task is as it should be; no agent holds two tasks, or stands at the stop that it is to visit next.
pub record AreFlawless (site : Site) (parts : Parts) : Type 0 where
  pub slots : length parts.slots ≡ length parts.paths
  pub few : length parts.tasks ≤ most_tasks
  pub clock_fits : parts.clock ≤ last_clock
  pub walks : (agent : ℕ) → agent < length parts.paths → IsWalk site.grid (path_of parts.paths agent)
  pub free : AllFree site.layout.nofollow parts.paths
  pub tasks : (n : ℕ) (task : Task) → IsTask parts.tasks n task → IsSoundTask site (state_of parts) task
  pub one : (agent m n : ℕ) (task other : Task) → IsOwn (state_of parts) agent m task → IsOwn (state_of parts) agent n other → m ≡ n
  pub away : (agent n : ℕ) (task : Task) → IsOwn (state_of parts) agent n task → cell_at (stops_left task) 0 ≢ place_of parts.paths agent

-- the first flaw of an agent that comes behind these parts
abbrev pub IsAgentFlaw : Site → Parts → List Cell → Flaw → Type 0
IsAgentFlaw site parts path Flaw.Agents = length site.layout.agents ≤ length parts.paths
IsAgentFlaw site parts path flaw = (length parts.paths < length site.layout.agents) × IsPathFlaw site.grid site.layout.nofollow parts.paths path flaw

-- an agent with no flaw, behind these parts
pub record IsFitAgent (site : Site) (parts : Parts) (path : List Cell) : Type 0 where
  pub room : length parts.paths < length site.layout.agents
  pub fit : IsFit site.grid site.layout.nofollow parts.paths path

-- no sound state has these paths first
abbrev pub NoneHasPaths : Site → List (List Cell) → Type 0
NoneHasPaths site paths = (s : State) (more : List (List Cell)) → s.paths ≡ paths ++ more → ¬ IsSound site s

-- no sound state at this clock has these paths, and these tasks first
abbrev pub NoneHasTasks : Site → Parts → Type 0
NoneHasTasks site parts =
    (s : State) (more : List Task) → s.clock ≡ parts.clock → s.paths ≡ parts.paths → s.tasks ≡ parts.tasks ++ more → ¬ IsSound site s

-- what is said of the flaw, if it is not that memory ran out
abbrev pub Told : (Flaw → Type 0) → Refused → Type 0
Told Says refused.NoMemory = Unit {0}
Told Says (refused.Flaw flaw) = Says flaw

-- A sound state is the one that its parts make.
abbrev pub PartsTellTheState : Type 0
PartsTellTheState = (site : Site) (s : State) → IsBeginning site s → s ≡ state_of (parts_of s)
