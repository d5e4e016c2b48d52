-- parts that are taken one by one
use Rattle.std.specs.Prelude.{◌≡◌, ℕ, ◌<◌, ◌≤◌, ◌↔◌, [], length, take}
use Rattle.wh_path.specs.Paths.{path_of}
use Rattle.wh_points.specs.Points.{Site}
use Rattle.wh_tasks.specs.declared.task.Task.{Task}
use Rattle.wh_tasks.specs.Tasks.{IsTask}
use Rattle.wh_core.specs.Steps.{last_clock, most_tasks}
use Rattle.wh_core.specs.Laws.{IsSound}
use Rattle.wh_stand.specs.Parts.{Parts, state_of}
use Rattle.wh_stand.specs.TaskFlaws.{IsInForm, IsFitTask}
use Rattle.wh_stand.specs.Flawless.{IsFitAgent}

-- the first so many agents, and no task
abbrev pub first_agents : ℕ → Parts → Parts
first_agents n parts = record parts { paths = take n parts.paths; slots = take n parts.slots; tasks = [] }

-- all agents, and the first so many tasks
abbrev pub first_tasks : ℕ → Parts → Parts
first_tasks n parts = record parts { tasks = take n parts.tasks }

-- All parts are taken: each agent behind those before it, then each task behind the agents and the tasks before it; and there are as
-- many agents as the points have.
pub record AreTaken (site : Site) (parts : Parts) : Type 0 where
  pub clock_fits : parts.clock ≤ last_clock
  pub few : length parts.tasks ≤ most_tasks
  pub slots : length parts.slots ≡ length parts.paths
  pub all : length parts.paths ≡ length site.layout.agents
  pub agents : (n : ℕ) → n < length parts.paths → IsFitAgent site (first_agents n parts) (path_of parts.paths n)
  pub forms : (n : ℕ) (task : Task) → IsTask parts.tasks n task → IsInForm task
  pub tasks : (n : ℕ) (task : Task) → IsTask parts.tasks n task → IsFitTask site.layout (first_tasks n parts) task

-- Parts are taken exactly if they make a sound state.
abbrev pub TakenIsSound : Type 0
TakenIsSound = (site : Site) (parts : Parts) → AreTaken site parts ↔ IsSound site (state_of parts)
