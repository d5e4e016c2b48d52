use Rattle.wh_progress.proofs.Spans.{horizon_is_bounded}
use Rattle.wh_progress.proofs.laws.horizon_is_bounded.Goals as goal

pub returns : goal.returns
returns c = horizon_is_bounded
