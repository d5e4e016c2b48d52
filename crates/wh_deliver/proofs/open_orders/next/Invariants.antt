use Rattle.std.proofs.Common.{◌≡◌, length}
use Rattle.wh_deliver.proofs.Barring.{Rest}
use Rattle.wh_deliver.proofs.open_orders.next.Given as goal

abbrev pub invariant-loop-agent : goal.invariant-loop-agent
invariant-loop-agent g l = record {
  rest : Rest l.fn.task l.fn.warehouse.book.state.paths l.fn.from l.agent;
  agents : l.agents ≡ length l.fn.warehouse.book.state.paths;
}
