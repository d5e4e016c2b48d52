use Rattle.std.proofs.Common.{◌≡◌, take}
use Rattle.wh_vehicles.specs.Plans.{places}
use Rattle.wh_dispatch.proofs.fleet.row_of.Given as goal

abbrev pub invariant-loop-agent : goal.invariant-loop-agent
invariant-loop-agent g l = l.row.items ≡ take l.agent (places l.warehouse.book.state)
