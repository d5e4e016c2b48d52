use Rattle.wh_judge.proofs.Reachable.{begins-there, ways-there}
use Rattle.wh_judge.proofs.agents.may_linger.Goals as goal

pub may_rest-requires-clause-begins : goal.may_rest-requires-clause-begins
may_rest-requires-clause-begins c = rw (c.points.ensures.value, c.homes.ensures) (begins-there c.args.instance.now c.args.floor.now.state c.requires.reached)

pub may_rest-requires-clause-ways : goal.may_rest-requires-clause-ways
may_rest-requires-clause-ways c =
    rw (c.points.ensures.value, c.homes.ensures) (λ e. ways-there c.args.instance.now c.args.floor.now.state (c.requires.ways e))

pub returns : goal.returns
returns c = rw (c.points.ensures.value, c.homes.ensures) at (c.may_rest.ensures c.args.instance.now.grid)
