use Rattle.wh_core.proofs.Agreeing.{zip-names}
use Rattle.wh_judge.proofs.PointNames.{fault-no_stations}
use Rattle.wh_judge.proofs.submitting.accept.Goals as goal

pub returns-in-Err-clause-answer : goal.returns-in-Err-clause-answer
returns-in-Err-clause-answer c =
    let site = c.args.instance.now in
    let stops = c.args.stops.now in
    let fault = rw c.points-points.ensures.value at c.in-Err.ensures.fault in
    λ new a. fault-no_stations site stops _ c.points-points.ensures.layout fault (zip-names site.layout stops a.5.0 a.5.1)
