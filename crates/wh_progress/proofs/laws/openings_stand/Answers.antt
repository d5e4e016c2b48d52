use Rattle.wh_progress.proofs.Spans.{openings_stand}
use Rattle.wh_progress.proofs.laws.openings_stand.Goals as goal

pub returns : goal.returns
returns c = openings_stand
