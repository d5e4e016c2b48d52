use Rattle.std.proofs.Common.{◌≡◌, ◌++◌, take, map}
use Rattle.wh_words.specs.Lines.{text_of}
use Rattle.wh_log.specs.Spelling.{entry_line}
use Rattle.wh_log.proofs.writer.push_entries.Given as goal

abbrev pub invariant-loop-entry : goal.invariant-loop-entry
invariant-loop-entry l = l.out.items ≡ l.fn.out.items ++ text_of (map entry_line (take l.entry-index l.entries))
