-- the laws of tasks
use Rattle.std.specs.Prelude.{◌≡◌, ◌≢◌, ℕ, ◌+◌, ◌<◌, ◌≤◌, ◌↔◌, List, ◌++◌, Some, None, length, replicate}
use Rattle.wh_grid.specs.declared.cell.Cell.{Cell}
use Rattle.wh_grid.specs.Grids.{Floor}
use Rattle.wh_path.specs.Paths.{cell_at}
use Rattle.wh_tasks.specs.declared.task.Task.{Task}
use Rattle.wh_tasks.specs.declared.task.Phase.{Phase}
use Rattle.wh_tasks.specs.Tasks.{visited, phase}
use Rattle.wh_tasks.specs.Choice.{IsNearest}
use Rattle.wh_tasks.specs.Arrivals.{arrived_task}

-- the task has an agent
abbrev pub HasAgent : Task → Type 0
HasAgent task = (agent : ℕ) × (task.agent ≡ Some agent)

-- A task is open while it has no agent, assigned before its first visit, carried before its last one, and done after it.
pub record PhasesAre (task : Task) : Type 0 where
  pub is_open : (phase task ≡ Phase.Open) ↔ (task.agent ≡ None)
  pub is_assigned : (phase task ≡ Phase.Assigned) ↔ (HasAgent task × (visited task ≡ 0))
  pub is_carried : (phase task ≡ Phase.Carried) ↔ (HasAgent task × (1 ≤ visited task) × (visited task < length task.stops))
  pub is_done : (phase task ≡ Phase.Done) ↔ (HasAgent task × (1 ≤ visited task) × (length task.stops ≤ visited task))

-- and so it is of every task
abbrev pub PhasesAreAsSaid : Type 0
PhasesAreAsSaid = (task : Task) → PhasesAre task

-- From old to new the agent, which is here, visited each next stop that is its cell, at this clock, and then no more: the
-- stop after them, if there is one, is another cell.
pub record VisitsAllHere (clock : ℕ) (here : Cell) (old new : Task) : Type 0 where
  pub client : new.client ≡ old.client
  pub stops : new.stops ≡ old.stops
  pub submitted : new.submitted ≡ old.submitted
  pub agent : new.agent ≡ old.agent
  pub count : ℕ
  pub visits : new.visits ≡ old.visits ++ replicate count clock
  pub within : visited old ≤ length old.stops → visited old + count ≤ length old.stops
  pub each_here : (i : ℕ) → visited old ≤ i → i < visited old + count → cell_at old.stops i ≡ here
  pub next_elsewhere : visited old + count < length old.stops → cell_at old.stops (visited old + count) ≢ here

-- The arrivals visit all stops that they can, and change nothing of a task that no agent has.
abbrev pub ArrivalsVisitAll : Type 0
ArrivalsVisitAll =
    (clock : ℕ) (place : ℕ → Cell) (task : Task) →
    (task.agent ≡ None → arrived_task clock place task ≡ task)
    × ((agent : ℕ) → task.agent ≡ Some agent → VisitsAllHere clock (place agent) task (arrived_task clock place task))

-- There is one nearest task.
abbrev pub NearestIsOne : Type 0
NearestIsOne =
    (g : Floor) (tasks : List Task) (ends : List Cell) (here : Cell) (n m : ℕ) (task other : Task) →
    IsNearest g tasks ends here n task → IsNearest g tasks ends here m other → n ≡ m
