use Rattle.wh_judge.proofs.Ways.{route-iff}
use Rattle.wh_judge.proofs.routes.has_route.Goals as goal

pub returns : goal.returns
returns c = rw c.is_some.ensures (route-iff c.args.grid.now c.args.from c.args.to c.args.avoid.now c.in_ok-found.found c.in_ok-found.ensures.found c.in_ok-found.ensures.none)
