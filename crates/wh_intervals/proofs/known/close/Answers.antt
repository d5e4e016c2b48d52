use Rattle.std.proofs.Common.{ℕ, Option, IfSome, subst}
use Rattle.wh_intervals.specs.Nodes.{interval_of}
use Rattle.wh_intervals.specs.Told.{IsRest}
use Rattle.wh_intervals.specs.declared.interval.Interval.{Interval}
use Rattle.wh_intervals.proofs.known.close.Goals as goal

pub returns-clause-rest : goal.returns-clause-rest
returns-clause-rest c =
    let n = c.args.node in
    subst (λ (f : Interval → Option ℕ). IfSome c.close_at-2.result (λ last. IsRest (f (interval_of n)) n last)) c.in_ok-place.ensures.same c.close_at-2.ensures.rest
