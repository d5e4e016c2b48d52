-- what is kept while the tasks are gone over
use Rattle.std.specs.Prelude.{◌≡◌, ℕ, ◌*◌, ◌^◌, ◌<◌, ◌≤◌, List, [], length, map, slice_index_or}
use Rattle.std.specs.Str.{bytes_eq}
use Rattle.std.specs.List.{IsDistinct}
use Rattle.indexmap.specs.IndexSet.{insert_key}
use Rattle.wh_tasks.specs.declared.task.Task.{Task}
use Rattle.wh_ledger.specs.declared.row.Row.{Row}
use Rattle.wh_ledger.specs.Ledgers.{row_of, clients_of}

-- no count of the row is above n, and that many tasks can have taken its time
pub record IsWithin (n : ℕ) (row : Row) : Type 0 where
  pub submitted : row.submitted ≤ n
  pub open_tasks : row.open_tasks ≤ n
  pub assigned : row.assigned ≤ n
  pub carried : row.carried ≤ n
  pub done : row.done ≤ n
  pub time : row.time ≤ n * 2 ^ 32

-- the rows of some tasks, where a client has one too, at a place, of which no task was counted yet
pub record HasPlace (tasks : List Task) (client : List ℕ) (keys : List (List ℕ)) (rows : List Row) (place : ℕ) : Type 0 where
  pub keys_are : keys ≡ insert_key bytes_eq (clients_of tasks) client
  pub rows_are : rows ≡ map (row_of tasks) keys
  pub apart : IsDistinct bytes_eq keys
  pub below : place < length keys
  pub at : slice_index_or keys place [] ≡ client
