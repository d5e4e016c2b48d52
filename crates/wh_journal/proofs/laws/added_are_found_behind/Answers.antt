use Rattle.wh_journal.proofs.Surviving.{added_are_found_behind}
use Rattle.wh_journal.proofs.laws.added_are_found_behind.Goals as goal

pub returns : goal.returns
returns c = added_are_found_behind
