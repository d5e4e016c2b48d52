-- the laws of ledgers
use Rattle.std.specs.Prelude.{◌≡◌, ℕ, ◌+◌, ◌<◌, List, length, All, AllPairs, Contains}
use Rattle.std.specs.List.{position_or_len}
use Rattle.std.specs.Str.{bytes_eq}
use Rattle.wh_tasks.specs.declared.task.Task.{Task}
use Rattle.wh_ledger.specs.Ledgers.{row_of, clients_of}

-- where the first task of a client stands; the number of the tasks where it has none
abbrev pub first_task : List ℕ → List Task → ℕ
first_task client tasks = position_or_len (λ task. bytes_eq client task.client) tasks

-- These are the clients of the tasks, each once, in order of their first tasks.
pub record AreClients (tasks : List Task) (clients : List (List ℕ)) : Type 0 where
  pub each : All (λ task. Contains clients task.client) tasks
  pub known : All (λ client. first_task client tasks < length tasks) clients
  pub order : AllPairs (λ earlier later. first_task earlier tasks < first_task later tasks) clients

abbrev pub ClientsAreInOrder : Type 0
ClientsAreInOrder = (tasks : List Task) → AreClients tasks (clients_of tasks)

-- Each task of a client is in one phase.
abbrev pub PhasesAddUp : Type 0
PhasesAddUp = (tasks : List Task) (client : List ℕ) → let row = row_of tasks client in row.open_tasks + row.assigned + row.carried + row.done ≡ row.submitted
