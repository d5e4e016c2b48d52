-- the first task that may be chosen, everywhere or within a distance, and which cells are sought for them
use Rattle.std.specs.Prelude.{◌≡◌, ℕ, ◌<◌, ◌≤◌, List, Bool, Option, Some, None, IsTrue, IfSome, IfNone, min}
use Rattle.wh_grid.specs.declared.cell.Cell.{Cell}
use Rattle.wh_grid.specs.Grids.{Floor, IsPassable}
use Rattle.wh_field.specs.Distances.{IsDistance}
use Rattle.wh_tasks.specs.declared.task.Task.{Task}
use Rattle.wh_tasks.specs.Tasks.{pickup}
use Rattle.wh_tasks.specs.Choice.{IsEligible, NoneEligible}

-- The cells that are sought are pickups of tasks that may be chosen, and among them are all that may be walked on.
pub record AreSought (g : Floor) (tasks : List Task) (ends : List Cell) (sought : Cell → Bool) : Type 0 where
  pub only : (c : Cell) → IsTrue (sought c) → (n : ℕ) × (task : Task) × IsEligible tasks ends n task × (pickup task ≡ c)
  pub all : (n : ℕ) (task : Task) → IsEligible tasks ends n task → IsPassable g (pickup task) → IsTrue (sought (pickup task))

-- Of the tasks that may be chosen it has the least number.
pub record IsFirst (tasks : List Task) (ends : List Cell) (n : ℕ) (task : Task) : Type 0 where
  pub eligible : IsEligible tasks ends n task
  pub least : (m : ℕ) (other : Task) → IsEligible tasks ends m other → n ≤ m

-- its pickup is farther away
abbrev pub IsBeyond : Floor → Cell → ℕ → Task → Type 0
IsBeyond g here limit task = (d : ℕ) → IsDistance g here (pickup task) (Some d) → limit < d

-- It may be chosen and is at most so far away, and no such task has a lower number.
pub record IsFirstWithin (g : Floor) (tasks : List Task) (ends : List Cell) (here : Cell) (limit n : ℕ) (task : Task) : Type 0 where
  pub eligible : IsEligible tasks ends n task
  pub steps : ℕ
  pub distance : IsDistance g here (pickup task) (Some steps)
  pub near : steps ≤ limit
  pub before : (m : ℕ) (other : Task) → m < n → IsEligible tasks ends m other → IsBeyond g here limit other

-- all tasks that may be chosen are farther away
abbrev pub NoneWithin : Floor → List Task → List Cell → Cell → ℕ → Type 0
NoneWithin g tasks ends here limit = (n : ℕ) (task : Task) → IsEligible tasks ends n task → IsBeyond g here limit task

-- the lower of a number, if there is one, and one more
abbrev pub earliest : Option ℕ → ℕ → Option ℕ
earliest None n = Some n
earliest (Some first) n = Some (min first n)

-- The pickups of the tasks that may be chosen are sought, and the numbers of these tasks are between the two that were found,
-- of which the first is one of them.
pub record AreFound (g : Floor) (tasks : List Task) (ends : List Cell) (sought : Cell → Bool) (first : Option ℕ) (last : ℕ) : Type 0 where
  pub none : IfNone first (NoneEligible tasks ends)
  pub least : IfSome first (λ n. (task : Task) × IsFirst tasks ends n task)
  pub until : (n : ℕ) (task : Task) → IsEligible tasks ends n task → n ≤ last
  pub are_sought : AreSought g tasks ends sought

-- the first task that may be chosen and is at most so far away, or none
abbrev pub FirstWithin : Floor → List Task → List Cell → Cell → ℕ → Option ℕ → Type 0
FirstWithin g tasks ends here limit None = NoneWithin g tasks ends here limit
FirstWithin g tasks ends here limit (Some n) = (task : Task) × IsFirstWithin g tasks ends here limit n task
