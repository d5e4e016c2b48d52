-- What is told of the orders that stay open.
use Rattle.std.specs.Prelude.{◌≡◌, ◌+◌, ◌<◌, ◌==◌, ◌&&◌, ℕ, Bool, List, [], ◌∷◌, ◌++◌, Option, None, Some, MatchOption, codes, cond, decimal, drop, length, not}
use Rattle.std.specs.List.{list_any}
use Rattle.wh_grid.specs.declared.cell.Cell.{Cell}
use Rattle.wh_grid.specs.Cells.{is_cell}
use Rattle.wh_path.specs.Paths.{at, last_index}
use Rattle.wh_tasks.specs.declared.task.Task.{Task}
use Rattle.wh_tasks.specs.declared.task.Phase.{Phase}
use Rattle.wh_tasks.specs.Tasks.{delivery}
use Rattle.wh_tasks.specs.Changes.{count_in}
use Rattle.wh_core.specs.States.{State}

-- whether one of the cells is this one
abbrev pub has : List Cell → Cell → Bool
has cells here = list_any (is_cell here) cells

-- whether the cell is a stop of the task, and not its last: who rests there bars the task
abbrev pub bars : Task → Cell → Bool
bars task here = has task.stops here && not (is_cell (delivery task) here)

-- whether the agent with this path bars the task: it has no steps left, and where it is it bars the task
abbrev pub stands_in : Task → List Cell → Bool
stands_in task path = (last_index path == 0) && bars task (at path 0)

-- the agents that bar the task, in their order, of those with these paths, the first of which has this number
abbrev pub barring : Task → ℕ → List (List Cell) → List ℕ
barring task n [] = []
barring task n (path ∷ paths) = cond (stands_in task path) (n ∷ barring task (n + 1) paths) (barring task (n + 1) paths)

-- the first two numbers, where there are two
abbrev pub first_two : List ℕ → Option (ℕ × ℕ)
first_two [] = None
first_two (one ∷ []) = None
first_two (one ∷ other ∷ rest) = Some (one, other)

-- the two lowest agents that bar the task, where it is open and two do
abbrev pub pair_of : Option ℕ → List ℕ → Option (ℕ × ℕ)
pair_of None agents = first_two agents
pair_of (Some agent) agents = None

abbrev pub pair : List (List Cell) → Task → Option (ℕ × ℕ)
pair paths task = pair_of task.agent (barring task 0 paths)

-- the line of a task that two agents bar
abbrev pub bar_line : ℕ → ℕ × ℕ → List ℕ
bar_line task two = (codes "standstill " ++ decimal task) ++ (codes " " ++ decimal two.0) ++ (codes " " ++ decimal two.1) ++ 10 ∷ []

-- the line of a task, where two agents bar it
abbrev pub line_of : ℕ → Option (ℕ × ℕ) → List ℕ
line_of task None = []
line_of task (Some two) = bar_line task two

-- the lines of these tasks, the first of which has this number
abbrev pub lines_from : List (List Cell) → ℕ → List Task → List ℕ
lines_from paths n [] = []
lines_from paths n (task ∷ tasks) = line_of n (pair paths task) ++ lines_from paths (n + 1) tasks

-- how many tasks are not delivered: open, assigned or carried
abbrev pub undelivered : List Task → ℕ
undelivered tasks = count_in Phase.Open tasks + count_in Phase.Assigned tasks + count_in Phase.Carried tasks

-- the line that tells how many orders are open, if some are
abbrev pub head_text : ℕ → List ℕ
head_text count = cond (count == 0) [] ((codes "orders open: " ++ decimal count) ++ 10 ∷ [])

-- what is told of the state's open orders
abbrev pub open_text : State → List ℕ
open_text s = head_text (undelivered s.tasks) ++ lines_from s.paths 0 s.tasks

-- The first agent from this number on that bars the task, if one does: those from there on that bar it are that one, and the others behind it.
abbrev pub IsFirstBarring : Task → List (List Cell) → ℕ → Option ℕ → Type 0
IsFirstBarring task paths from found = MatchOption found (barring task from (drop from paths) ≡ [])
    (λ agent. (agent < length paths) × (barring task from (drop from paths) ≡ agent ∷ barring task (agent + 1) (drop (agent + 1) paths)))
