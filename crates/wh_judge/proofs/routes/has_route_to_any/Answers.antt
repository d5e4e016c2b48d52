use Rattle.wh_judge.proofs.Ways.{nearest-iff}
use Rattle.wh_judge.proofs.routes.has_route_to_any.Goals as goal

pub returns : goal.returns
returns c = rw c.is_some.ensures (nearest-iff c.args.grid.now c.args.from c.args.cells.now c.args.avoid.now c.in_ok-found.found c.in_ok-found.ensures.found c.in_ok-found.ensures.none)
