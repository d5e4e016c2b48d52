-- what a set does to its tasks: one is submitted, given to an agent, visited; and how many are in each phase
use Rattle.std.specs.Prelude.{◌≡◌, ℕ, ◌+◌, ◌-◌, ◌≤◌, ◌⊎◌, ◌++◌, List, [], ◌∷◌, Bool, true, false, Some, None, cond, nat_lt, length, count_by, All, AllPairs}
use Prim.Native.Nat.{zero, suc}
use Rattle.wh_grid.specs.declared.cell.Cell.{Cell}
use Rattle.wh_tasks.specs.declared.task.Task.{Task}
use Rattle.wh_tasks.specs.declared.task.Phase.{Phase}
use Rattle.wh_tasks.specs.declared.task.Visit.{Visit}
use Rattle.wh_tasks.specs.declared.task.Counts.{Counts}
use Rattle.wh_tasks.specs.Tasks.{visited, phase, IsOpen, IsTask}

-- the element at a place changed by a function; past the end nothing changes
abbrev pub changed_at : {X : Type 0} → ℕ → (X → X) → List X → List X
changed_at n f [] = []
changed_at zero f (x ∷ xs) = f x ∷ xs
changed_at (suc n) f (x ∷ xs) = x ∷ changed_at n f xs

-- a task as it is submitted: open, and nothing visited
abbrev pub fresh : List ℕ → List Cell → ℕ → Task
fresh client stops clock = record { client = client; stops = stops; submitted = clock; agent = None; visits = [] }

-- the task given to an agent
abbrev pub assigned : ℕ → Task → Task
assigned agent task = record task { agent = Some agent }

-- the task with one visit more
abbrev pub visited_once : ℕ → Task → Task
visited_once clock task = record task { visits = task.visits ++ clock ∷ [] }

-- which stop is visited next: the first, the last, or one between
abbrev pub visit_after : ℕ → ℕ → Visit
visit_after zero stops = Visit.First
visit_after (suc seen) stops = cond (nat_lt (suc (suc seen)) stops) Visit.Between Visit.Last

-- which of the task's stops is visited next
abbrev pub visit_of : Task → Visit
visit_of task = visit_after (visited task) (length task.stops)

-- the task of this number is assigned or carried
pub record IsUnderway (tasks : List Task) (n : ℕ) (task : Task) : Type 0 where
  pub there : IsTask tasks n task
  pub is_underway : (phase task ≡ Phase.Assigned) ⊎ (phase task ≡ Phase.Carried)

-- the clock is not below the clocks that the task has already
pub record IsInTime (clock : ℕ) (task : Task) : Type 0 where
  pub submitted : task.submitted ≤ clock
  pub visits : All (λ earlier. earlier ≤ clock) task.visits

-- What every task of a set keeps: 2 to 8 stops, no visit without an agent nor beyond the last stop, and clocks that never fall.
pub record IsOrderly (task : Task) : Type 0 where
  pub two : 2 ≤ length task.stops
  pub eight : length task.stops ≤ 8
  pub within : visited task ≤ length task.stops
  pub unvisited : IsOpen task → visited task ≡ 0
  pub after : All (λ clock. task.submitted ≤ clock) task.visits
  pub rising : AllPairs (λ earlier later. earlier ≤ later) task.visits

-- whether two phases are one
abbrev pub is_phase : Phase → Phase → Bool
is_phase Phase.Open Phase.Open = true
is_phase Phase.Assigned Phase.Assigned = true
is_phase Phase.Carried Phase.Carried = true
is_phase Phase.Done Phase.Done = true
is_phase wanted other = false

-- how many tasks are in a phase
abbrev pub count_in : Phase → List Task → ℕ
count_in wanted tasks = count_by (λ task. is_phase wanted (phase task)) tasks

-- how many tasks are in each phase
abbrev pub counts_of : List Task → Counts
counts_of tasks = record {
  open_tasks = count_in Phase.Open tasks;
  assigned = count_in Phase.Assigned tasks;
  carried = count_in Phase.Carried tasks;
  done = count_in Phase.Done tasks;
}

-- the counts with one task more in a phase, after a task was assigned, and after a visit
abbrev pub counted_more : Phase → Counts → Counts
counted_more Phase.Open counts = record counts { open_tasks = counts.open_tasks + 1 }
counted_more Phase.Assigned counts = record counts { assigned = counts.assigned + 1 }
counted_more Phase.Carried counts = record counts { carried = counts.carried + 1 }
counted_more Phase.Done counts = record counts { done = counts.done + 1 }

abbrev pub counted_assign : Counts → Counts
counted_assign counts = record counts { open_tasks = counts.open_tasks - 1; assigned = counts.assigned + 1 }

abbrev pub counted_visit : Visit → Counts → Counts
counted_visit Visit.First counts = record counts { assigned = counts.assigned - 1; carried = counts.carried + 1 }
counted_visit Visit.Between counts = counts
counted_visit Visit.Last counts = record counts { carried = counts.carried - 1; done = counts.done + 1 }

-- no count is beyond the greatest number of tasks
pub record AreFew (counts : Counts) : Type 0 where
  pub open_tasks : counts.open_tasks ≤ 1000000
  pub assigned : counts.assigned ≤ 1000000
  pub carried : counts.carried ≤ 1000000
  pub done : counts.done ≤ 1000000

-- a task is there that the visit takes out of its phase
abbrev pub CanCount : Visit → Counts → Type 0
CanCount Visit.First counts = 1 ≤ counts.assigned
CanCount Visit.Between counts = Unit {0}
CanCount Visit.Last counts = 1 ≤ counts.carried
