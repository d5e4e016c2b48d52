use Rattle.wh_board.specs.Pasts.{origin_of}
use Rattle.wh_survival.proofs.scribes.called.Given as goal

-- those of the outfit, and the journal
abbrev pub ghosts-calls-N-DeskName : goal.ghosts-calls-N-DeskName
ghosts-calls-N-DeskName g a = record { cells = a.outfit.cells; book = a.outfit.publisher.book; origin = origin_of a.outfit.warehouse.book; callers = 1 }

abbrev pub ghosts-calls-S-JournalName : goal.ghosts-calls-S-JournalName
ghosts-calls-S-JournalName g a = record { start = g.J.Journal.contents a.journal }
