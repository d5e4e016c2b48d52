use Rattle.std.proofs.Common.{length}
use Rattle.wh_live.proofs.run.history_of.Given as goal

-- the warehouse, the cells and the publisher that were just made
abbrev pub ghosts-over_desk : goal.ghosts-over_desk
ghosts-over_desk g a = record {
  cells = a.cells;
  book = a.publisher.book;
  origin = record { site = a.warehouse.book.site; opening = a.warehouse.book.opening };
  callers = length a.works.items;
}
