use Rattle.wh_progress.proofs.WorkedRounds.{three_stops_stand}
use Rattle.wh_progress.proofs.rows.three_stops_stand.Goals as goal

pub returns : goal.returns
returns c = three_stops_stand
