use Rattle.std.proofs.Common.{◌∙◌, ap, sym, length, refl, arith}
use Rattle.wh_core.proofs.Agreeing.{zip-names}
use Rattle.wh_judge.proofs.PointNames.{fault-no_stations}
use Rattle.wh_judge.proofs.submitting.is_full.Goals as goal

pub returns-in-Ok : goal.returns-in-Ok
returns-in-Ok c =
    let layout = c.args.instance.now.layout in
    let all = rw c.points-points.ensures.value at c.in-Ok.ensures.places in
    let tasks = ap length c.tasks.ensures.tasks in
    let count = c.len.ensures.count in (
      λ e. (sym c.closed.ensures ∙ c.if-closed.false, zip-names layout c.args.stops.now _ all, omega arith),
      λ p. refl,
    )

pub returns-in-Err : goal.returns-in-Err
returns-in-Err c =
    let site = c.args.instance.now in
    let fault = rw c.points-points.ensures.value at c.in-Err.ensures.fault in
    (λ e. cc, λ p. absurd (fault-no_stations site c.args.stops.now _ c.points-points.ensures.layout fault p.1))
