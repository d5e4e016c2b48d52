use Rattle.wh_order.proofs.Brought.{none_is_too_early}
use Rattle.wh_order.proofs.bringing.none_is_too_early.Goals as goal

pub returns : goal.returns
returns c = none_is_too_early
