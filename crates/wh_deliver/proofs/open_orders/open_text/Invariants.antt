use Rattle.std.proofs.Common.{◌≡◌, ◌++◌, drop}
use Rattle.wh_deliver.specs.OpenOrders.{lines_from, open_text}
use Rattle.wh_deliver.proofs.open_orders.open_text.Given as goal

-- what is put together and the lines of the tasks that are left are the whole
abbrev pub invariant-loop-n : goal.invariant-loop-n
invariant-loop-n g l = l.out.items ++ lines_from l.fn.warehouse.book.state.paths l.n (drop l.n l.fn.warehouse.book.state.tasks) ≡ open_text l.fn.warehouse.book.state
