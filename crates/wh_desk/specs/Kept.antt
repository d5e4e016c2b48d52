-- what passes and the journal keep
use Rattle.std.specs.Prelude.{◌≡◌, ℕ, ◌<◌, ◌≤◌, List, length, map, Some, slice_get, All}
use Rattle.once_cell.specs.declared.race.note.Note.{Note}
use Rattle.logbook.specs.Pages.{Book}
use Rattle.wh_event.specs.declared.entry.Entry.{Entry}
use Rattle.wh_board.specs.Pasts.{Origin, Past, Known, Stand, Extends}
use Rattle.wh_desk.specs.Lists.{AllAt, IsRunFrom, entries_of, last_position}
use Rattle.wh_desk.specs.declared.pass.Held.{Held}
use Rattle.wh_desk.specs.declared.pass.Row.{Row}

abbrev pub pair_of : Held → ℕ × Entry
pair_of x = (x.position.value, x.entry.value)

abbrev pub list_of : List Held → List (ℕ × Entry)
list_of xs = map pair_of xs

-- the row counts these entries, and has the position of the last
abbrev pub RowOf : List (ℕ × Entry) → Row → Type 0
RowOf all r = (r.count ≡ length all) × (r.last ≡ last_position all)

-- the note is of the cell at the receipt's position, and knows the receipt's entry
pub record NoteKnows (row : List ℕ) (x : Held) : Type 0 where
  pub cell : slice_get row x.position.value ≡ Some x.note.cell
  pub known : x.note.known ≡ Some x.entry.value

-- The pass has all that its caller did in the history that its front knows, which has this many entries and is a run, and a
-- note of the cell of each receipt.
pub record PassKeeps (origin : Origin) (row : List ℕ) (book : Book) (callers caller last long : ℕ) (held : List Held) (front : Known) : Type 0 where
  pub caller_within : caller < callers
  pub last_is : last ≡ last_position (list_of held)
  pub book_is : front.book ≡ book
  pub run : IsRunFrom origin front.past.history
  pub long_is : long ≡ length front.past.history
  pub all : list_of held ≡ entries_of front.past.history caller
  pub notes : AllAt (λ _ x. NoteKnows row x) held

-- the cells of a journal, by their names, and how many of them are set: the first ones
pub record Filled : Type 0 where
  pub names : List ℕ
  pub count : ℕ

-- the note is of the cell at k, and knows the entry at k
pub record NoteAt (row : List ℕ) (history : List Entry) (k : ℕ) (n : Note Entry) : Type 0 where
  pub cell : slice_get row k ≡ Some n.cell
  pub known : n.known ≡ slice_get history k

-- What a journal keeps of the past of its warehouse. Each caller has its row and each entry its note; as many cells are set
-- as there are entries; the publisher's book has just this past, and what was published last is a beginning of it.
pub record JournalKeeps (origin : Origin) (row : List ℕ) (book : Book) (callers : ℕ) (past : Past) (capacity : ℕ)
    (rows : List Row) (notes : List (Note Entry)) (cells : Filled) (publisher : Stand) : Type 0 where
  pub origin_is : past.origin ≡ origin
  pub within : length past.history ≤ capacity
  pub capacity_is : capacity ≡ length row
  pub cells_are : cells ≡ record { names = row; count = length past.history }
  pub callers_within : All (λ entry. entry.caller < callers) past.history
  pub rows_length : length rows ≡ callers
  pub rows_are : AllAt (λ caller r. RowOf (entries_of past.history caller) r) rows
  pub notes_length : length notes ≡ length past.history
  pub notes_are : AllAt (NoteAt row past.history) notes
  pub book_is : publisher.book ≡ book
  pub added_is : publisher.added ≡ past
  pub shown_begins : Extends publisher.shown past
