use Rattle.std.proofs.Common.{◌≡◌, drop}
use Rattle.wh_deliver.specs.OpenOrders as orders
use Rattle.wh_deliver.proofs.open_orders.has.Given as goal

-- the cells that are left tell it
abbrev pub invariant-loop-cell : goal.invariant-loop-cell
invariant-loop-cell l = orders.has l.fn.cells l.fn.here ≡ orders.has (drop l.cell-index l.fn.cells) l.fn.here
