use Rattle.wh_arrivals.proofs.Prefixes.{too_early_is_never}
use Rattle.wh_arrivals.proofs.laws.too_early_is_never.Goals as goal

pub returns : goal.returns
returns c = too_early_is_never
