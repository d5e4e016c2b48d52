-- which task an agent may choose, and which of them is nearest
use Rattle.std.specs.Prelude.{◌≡◌, ℕ, ◌<◌, ◌≤◌, ◌⊎◌, List, Option, Some, None, All, Contains}
use Rattle.wh_grid.specs.declared.cell.Cell.{Cell}
use Rattle.wh_grid.specs.Grids.{Floor}
use Rattle.wh_field.specs.Distances.{IsDistance}
use Rattle.wh_tasks.specs.declared.task.Task.{Task}
use Rattle.wh_tasks.specs.Tasks.{IsTask, IsOpen, pickup}

-- The task may be chosen: it is open, and none of its stops is one of the ends, at which the others come to rest.
pub record IsEligible (tasks : List Task) (ends : List Cell) (n : ℕ) (task : Task) : Type 0 where
  pub there : IsTask tasks n task
  pub is_open : IsOpen task
  pub clear : All (λ stop. ¬ Contains ends stop) task.stops

-- no task may be chosen
abbrev pub NoneEligible : List Task → List Cell → Type 0
NoneEligible tasks ends = (n : ℕ) (task : Task) → ¬ IsEligible tasks ends n task

-- One task, by its distance and number, comes before another or is the same. No distance is greater than every number,
-- and among equal distances the lower number comes first.
abbrev pub IsAtMost : Option ℕ → ℕ → Option ℕ → ℕ → Type 0
IsAtMost (Some d) n (Some e) m = (d < e) ⊎ ((d ≡ e) × (n ≤ m))
IsAtMost (Some d) n None m = Unit {0}
IsAtMost None n (Some e) m = ⊥
IsAtMost None n None m = n ≤ m

-- Of the tasks that may be chosen, it is the one whose pickup is nearest to the cell.
pub record IsNearest (g : Floor) (tasks : List Task) (ends : List Cell) (here : Cell) (n : ℕ) (task : Task) : Type 0 where
  pub eligible : IsEligible tasks ends n task
  pub distance : Option ℕ
  pub is_distance : IsDistance g here (pickup task) distance
  pub least : (m : ℕ) (other : Task) (far : Option ℕ) → IsEligible tasks ends m other → IsDistance g here (pickup other) far → IsAtMost distance n far m
