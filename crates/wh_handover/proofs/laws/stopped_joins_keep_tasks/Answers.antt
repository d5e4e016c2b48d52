use Rattle.wh_handover.proofs.Stopping as stopping
use Rattle.wh_handover.proofs.laws.stopped_joins_keep_tasks.Goals as goal

pub returns : goal.returns
returns c = stopping.stopped_joins_keep_tasks
