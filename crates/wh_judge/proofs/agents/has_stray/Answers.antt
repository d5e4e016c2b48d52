use Rattle.std.proofs.Common.{◌∙◌, sym}
use Rattle.wh_judge.proofs.Reachable.{begins-there, none-astray}
use Rattle.wh_judge.proofs.agents.has_stray.Goals as goal

pub first_stray-requires : goal.first_stray-requires
first_stray-requires c = rw (c.points.ensures.value, c.homes.ensures) (begins-there c.args.instance.now c.args.floor.now.state c.requires.reached)

pub returns-then-not-strays : goal.returns-then-not-strays
returns-then-not-strays c = λ e. c.requires.ways c.if-not-strays.true

pub returns : goal.returns
returns c = λ e.
    none-astray c.args.instance.now c.args.floor.now.state c.points.result.now c.homes.result c.first_stray.result c.points.ensures.value c.homes.ensures
    c.first_stray.ensures.none (sym c.is_some.ensures ∙ e)
