use Rattle.wh_arrivals.proofs.Once.{one_reading}
use Rattle.wh_arrivals.proofs.laws.one_reading.Goals as goal

pub returns : goal.returns
returns c = one_reading
