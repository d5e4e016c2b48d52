use Rattle.wh_intervals.proofs.Places.{kept_link}
use Rattle.wh_intervals.proofs.intervals.link.Goals as goal

pub returns-clause-same : goal.returns-clause-same
returns-clause-same c = kept_link c.args.noted.now c.args.place _
