use Rattle.std.proofs.Common.{arith}
use Rattle.wh_intervals.proofs.Entering.{has_back}
use Rattle.wh_intervals.proofs.states.leads_from.Goals as goal

pub returns-then-stands-clause-met : goal.returns-then-stands-clause-met
returns-then-stands-clause-met c = λ nodes among k since soon.
    has_back nodes among.place c.args.back (record { leg = c.args.leg; cell = c.args.to }) c.args.from.time k among.within among.is (c.stands.ensures.state c.if-stands.true) (c.stands.ensures.from c.if-stands.true) since
    (omega (arith, soon, c.from-start.ensures, c.max.ensures, c.from.ensures))
