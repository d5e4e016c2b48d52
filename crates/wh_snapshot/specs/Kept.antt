-- what the type of a task keeps
use Rattle.std.specs.List.{AllByRecursion}
use Rattle.wh_event.specs.Grammar.{IsName}
use Rattle.wh_tasks.specs.declared.task.Task.{Task}
use Rattle.wh_front.specs.Ranges.{CellFits}

-- its client is a name, and its stops have columns and rows of 16 bits
pub record IsTyped (task : Task) : Type 0 where
  pub client : IsName task.client
  pub stops : AllByRecursion CellFits task.stops
