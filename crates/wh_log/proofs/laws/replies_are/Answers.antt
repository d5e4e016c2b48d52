use Rattle.wh_log.proofs.Telling.{text_is_line, one_reply, one_placed}
use Rattle.wh_log.proofs.laws.replies_are.Goals as goal

pub returns-clause-lines : goal.returns-clause-lines
returns-clause-lines c = text_is_line

pub returns-clause-one : goal.returns-clause-one
returns-clause-one c = one_reply

pub returns-clause-placed : goal.returns-clause-placed
returns-clause-placed c = one_placed
