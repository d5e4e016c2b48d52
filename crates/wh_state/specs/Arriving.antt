use Rattle.std.specs.Prelude.{◌≡◌, ℕ, List, false, Option, Some, None}
use Rattle.wh_tasks.specs.declared.arrivals.Foretold.{Foretold}
use Rattle.wh_grid.specs.declared.cell.Cell.{Cell}
use Rattle.wh_tasks.specs.declared.task.Task.{Task}
use Rattle.wh_tasks.specs.declared.task.Load.{Load}
use Rattle.wh_tasks.specs.declared.arrivals.Arrived.{Arrived}
use Rattle.wh_tasks.specs.Tasks.{IsTask}
use Rattle.wh_tasks.specs.Arrivals.{visited_at}
use Rattle.wh_tasks.specs.Changes.{changed_at}
use Rattle.wh_tasks.specs.Visiting.{Arrives, Foretells}

-- the tasks after the arrivals of an agent that is here, with the task of this number or with none
abbrev pub visited_by : ℕ → Cell → Option ℕ → List Task → List Task
visited_by clock here None tasks = tasks
visited_by clock here (Some n) tasks = changed_at n (visited_at clock here) tasks

-- what is told of the arrivals of an agent that is here, with the task of this number or with none
abbrev pub ArrivesBy : ℕ → Cell → List Task → Option ℕ → Arrived → Type 0
ArrivesBy clock here tasks None arrived = arrived ≡ record { load = Load.None; picked = false; dropped = false }
ArrivesBy clock here tasks (Some n) arrived = (task : Task) × IsTask tasks n task × Arrives n task (visited_at clock here task) arrived

-- what is told beforehand of the arrivals of an agent that will be here, with the task of this number or with none
abbrev pub ForetellsBy : ℕ → Cell → List Task → Option ℕ → Foretold → Type 0
ForetellsBy clock here tasks None told = told ≡ record { picked = false; dropped = false }
ForetellsBy clock here tasks (Some n) told = (task : Task) × IsTask tasks n task × Foretells task (visited_at clock here task) told
