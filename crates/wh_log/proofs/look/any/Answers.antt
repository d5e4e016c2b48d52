use Rattle.std.proofs.Common.{◌≢◌}
use Rattle.wh_log.proofs.Fronts.{other_count}
use Rattle.wh_log.proofs.look.any.Goals as goal

pub returns-then-total-count : goal.returns-then-total-count
returns-then-total-count c =
    let differs : c.in-Some-end_count.total ≢ c.args.count = c.if-total-count.true in
    (c.in-Some.line.now, c.in-Some.rest.now, c.in-Some.ensures.line, c.in-Some.ensures.parts, other_count c.args.version c.args.count c.in-Some-end_count.total c.in-Some.line.now c.requires c.in-Some-end_count.ensures.found.1 differs c.in-Some-end_count.ensures.found.0)
