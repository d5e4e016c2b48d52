use Rattle.wh_board.proofs.Chains.{extends_same}
use Rattle.wh_desk.proofs.journal.Journal.over.Goals as goal

pub invariant_of-result : goal.invariant_of-result
invariant_of-result g c =
    let r = c.requires in
    record {
      origin_is = r.origin;
      within = r.room;
      capacity_is = r.capacity;
      cells_are = r.cells;
      callers_within = r.callers;
      rows_length = r.length;
      rows_are = r.rows;
      notes_length = r.noted;
      notes_are = r.notes;
      book_is = r.book;
      added_is = r.added;
      shown_begins = extends_same _ _ r.shown;
    }
