-- the delivery ledger of a list of tasks
use Rattle.std.specs.Prelude.{ℕ, ◌-◌, not, List, [], ◌∷◌, length, map, filter, sum_by, slice_index}
use Rattle.std.specs.Str.{bytes_eq}
use Rattle.wh_tasks.specs.declared.task.Task.{Task}
use Rattle.wh_tasks.specs.declared.task.Phase.{Phase}
use Rattle.wh_tasks.specs.Tasks.{visited, phase}
use Rattle.wh_tasks.specs.Changes.{is_phase, count_in}
use Rattle.wh_ledger.specs.declared.row.Row.{Row}

-- the tasks that a client submitted
abbrev pub tasks_of : List ℕ → List Task → List Task
tasks_of client tasks = filter (λ task. bytes_eq client task.client) tasks

-- the tasks that are done
abbrev pub done_of : List Task → List Task
done_of tasks = filter (λ task. is_phase Phase.Done (phase task)) tasks

-- the ticks from the submission of a task that is done to its last visit, which is its delivery
abbrev pub time_of : Task → ℕ
time_of task = slice_index task.visits (visited task - 1) - task.submitted

-- the row of a client
abbrev pub row_of : List Task → List ℕ → Row
row_of tasks client = record {
  client = client;
  submitted = length (tasks_of client tasks);
  open_tasks = count_in Phase.Open (tasks_of client tasks);
  assigned = count_in Phase.Assigned (tasks_of client tasks);
  carried = count_in Phase.Carried (tasks_of client tasks);
  done = count_in Phase.Done (tasks_of client tasks);
  time = sum_by time_of (done_of (tasks_of client tasks));
}

-- the clients, each once, in order of their first tasks
abbrev pub clients_of : List Task → List (List ℕ)
clients_of [] = []
clients_of (task ∷ tasks) = task.client ∷ filter (λ other. not (bytes_eq task.client other)) (clients_of tasks)

-- one row for each client that submitted a task
abbrev pub rows_of : List Task → List Row
rows_of tasks = map (row_of tasks) (clients_of tasks)
