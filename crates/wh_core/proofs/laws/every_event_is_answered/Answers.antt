use Rattle.wh_core.proofs.Answering.{every_event}
use Rattle.wh_core.proofs.laws.every_event_is_answered.Goals as goal

pub returns : goal.returns
returns c = every_event
