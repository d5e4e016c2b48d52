use Rattle.std.proofs.Common.{length, Some}
use Rattle.wh_board.specs.Pasts.{origin_of}
use Rattle.wh_drills.proofs.serving.serve_made.Given as goal

-- those of the outfit and of the journal
abbrev pub ghosts-serve-N-DeskName : goal.ghosts-serve-N-DeskName
ghosts-serve-N-DeskName g a = record { cells = a.outfit.cells; book = a.outfit.publisher.book; origin = origin_of a.outfit.warehouse.book; callers = length a.clients.items }

abbrev pub ghosts-serve-S-JournalName : goal.ghosts-serve-S-JournalName
ghosts-serve-S-JournalName g a = record { start = Some a.journal.held.items }
