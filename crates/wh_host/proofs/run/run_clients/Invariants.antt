use Rattle.wh_host.specs.Pacing.{callers_of}
use Rattle.wh_host.specs.Runs.{first_lines}
use Rattle.wh_host.proofs.run.run_clients.Given as goal

-- the warehouse, and the cells and the publisher that were just made
abbrev pub ghosts-over_desk-N-DeskName : goal.ghosts-over_desk-N-DeskName
ghosts-over_desk-N-DeskName g a = record {
  cells = a.outfit.cells;
  book = a.outfit.publisher.book;
  origin = record { site = a.warehouse.book.site; opening = a.warehouse.book.opening };
  callers = callers_of a.clients.items a.pace;
}

-- the journal as it was before its first entry
abbrev pub ghosts-over_desk-S-JournalName : goal.ghosts-over_desk-S-JournalName
ghosts-over_desk-S-JournalName g a = record { start = first_lines (g.J.Journal.contents a.journal) a.warehouse.book }
