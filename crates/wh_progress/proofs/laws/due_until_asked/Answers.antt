use Rattle.wh_progress.proofs.Due.{due_until_asked}
use Rattle.wh_progress.proofs.laws.due_until_asked.Goals as goal

pub returns : goal.returns
returns c = due_until_asked
