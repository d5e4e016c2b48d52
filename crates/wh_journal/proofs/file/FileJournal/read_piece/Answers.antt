use Rattle.std.proofs.Common.{[], sym}
use Rattle.std.proofs.lemmas.List.{append-nil}
use Rattle.wh_journal.proofs.file.FileJournal.read_piece.Goals as goal

pub returns-in_default : goal.returns-in_default
returns-in_default g c = record { piece = []; added = sym (append-nil c.args.buffer.now.items); is = record { next = tt; none = λ e. tt } }
