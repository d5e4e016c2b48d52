-- Lines of entries that a keeper adds to its log, and bytes that wait before they are added.
use Rattle.std.specs.Prelude.{◌≡◌, ℕ, List, [], ◌++◌, map}
use Rattle.wh_words.specs.Lines.{text_of as lines_text}
use Rattle.wh_event.specs.declared.entry.Entry.{Entry}
use Rattle.wh_log.specs.Spelling.{entry_line}
use Rattle.wh_session.specs.Machines.{Records, joined}

-- the lines of entries
abbrev pub lines_for : List Entry → List ℕ
lines_for entries = lines_text (map entry_line entries)

-- bytes of the log, and nothing that rests on it
abbrev pub logged : List ℕ → Records
logged bytes = record { log = bytes; more = [] }

-- Bytes were added behind those that waited: of all these a front was added to the log, and the others wait.
pub record Moves {H : Type 0} (adds : H → Records → H → Type 0) (old new : H) (waited waits bytes : List ℕ) : Type 0 where
  pub moved : List ℕ
  pub added : adds old (logged moved) new
  pub parts : waited ++ bytes ≡ moved ++ waits

-- A call failed while these bytes were added to the log, behind records that were added before and maybe ahead of others.
pub record FailsAt {H : Type 0} (is_safe : H → Type 0) (adds leaves : H → Records → H → Type 0) (old new : H) (bytes : List ℕ) : Type 0 where
  pub left : (a : H) (r rest : Records) → is_safe a → adds a r old → r.more ≡ [] → leaves a (joined (joined r (logged bytes)) rest) new
