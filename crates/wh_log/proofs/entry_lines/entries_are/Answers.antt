use Rattle.wh_log.proofs.EntryLaws.{entry_is_line, one_entry}
use Rattle.wh_log.proofs.entry_lines.entries_are.Goals as goal

pub returns-clause-lines : goal.returns-clause-lines
returns-clause-lines c = entry_is_line

pub returns-clause-one : goal.returns-clause-one
returns-clause-one c = one_entry
