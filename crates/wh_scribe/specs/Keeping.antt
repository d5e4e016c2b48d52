-- what a journal keeps of a history, from its start
use Rattle.std.specs.Prelude.{◌≡◌, ℕ, ◌+◌, ◌≤◌, Bool, true, false, List, ◌++◌, length, take, drop, Option, Some, slice_get}
use Rattle.std.specs.Io.KnownBytes.{Appends}
use Rattle.logbook.specs.Pages.{Book}
use Rattle.wh_event.specs.declared.entry.Entry.{Entry}
use Rattle.wh_board.specs.Pasts.{Origin, Known}
use Rattle.wh_desk.specs.Lists.{IsRunFrom}
use Rattle.wh_journal.specs.Scripts.{WritesFront}
use Rattle.wh_journal.specs.Journals.{lines_for}

-- The history is a run, in which the entry stands at this position. In some state of the journal what it had synced was what it
-- held at the start, and then the lines of this history up to the entry, and maybe of more entries.
pub record IsKept {X : Type 0} (synced : X → Option (List ℕ)) (start : Option (List ℕ)) (origin : Origin) (history : List Entry) (position : ℕ) (entry : Entry) : Type 0 where
  pub run : IsRunFrom origin history
  pub stands : slice_get history position ≡ Some entry
  pub journal : X
  pub more : List Entry
  pub safe : Appends start (synced journal) (lines_for (take (position + 1) history ++ more))

-- In some state of the journal what it had synced was what it held at the start, and then the lines of the first entries of this
-- history, up to some number, and maybe of more entries.
pub record KeepsFirst {X : Type 0} (synced : X → Option (List ℕ)) (start : Option (List ℕ)) (history : List Entry) (count : ℕ) : Type 0 where
  pub journal : X
  pub more : List Entry
  pub safe : Appends start (synced journal) (lines_for (take count history ++ more))

-- the lines of the first n entries of the history, and then maybe a front of the lines of the next ones
pub record HoldsFront (start now : Option (List ℕ)) (history : List Entry) (written : ℕ) : Type 0 where
  pub whole : Option (List ℕ)
  pub lines : Appends start whole (lines_for (take written history))
  pub front : WritesFront whole now (lines_for (drop written history))

-- A journal that held this at the start holds this now: behind it the lines of the first n entries of the history; once
-- it has failed, a front of the lines of the next ones may follow.
abbrev pub Holds : Bool → (start now : Option (List ℕ)) → List Entry → ℕ → Type 0
Holds false start now history written = Appends start now (lines_for (take written history))
Holds true start now history written = HoldsFront start now history written

-- The journal with what is known of the history: this many of its entries are written, and this many of these are synced.
pub record Standing (X : Type 0) : Type 0 where
  pub journal : X
  pub known : Known
  pub written : ℕ
  pub synced : ℕ
  pub failed : Bool

-- No more is written than the history of this book has, and no more is synced than is written. What is written stands behind
-- what the journal held at the start, and so does what is synced, of what survives a kill.
pub record PageKeeps {X : Type 0} (contents synced : X → Option (List ℕ)) (book : Book) (start : Option (List ℕ)) (page : Standing X) : Type 0 where
  pub book_is : page.known.book ≡ book
  pub within : page.written ≤ length page.known.past.history
  pub safe_within : page.synced ≤ page.written
  pub holds : Holds page.failed start (contents page.journal) page.known.past.history page.written
  pub safe : Appends start (synced page.journal) (lines_for (take page.synced page.known.past.history))

abbrev pub standing : {X : Type 0} → X → Known → ℕ → ℕ → Bool → Standing X
standing journal known written synced failed = record { journal = journal; known = known; written = written; synced = synced; failed = failed }

-- What is kept: how many of the first entries of what is known of the history; whether the journal has failed, and whether somebody
-- is at it.
pub record Marked : Type 0 where
  pub known : Known
  pub synced : ℕ
  pub failed : Bool
  pub is_busy : Bool

-- The first n entries of this book's history are known, and were synced in some state of the journal.
pub record MarkKeeps {X : Type 0} (synced : X → Option (List ℕ)) (book : Book) (start : Option (List ℕ)) (known : Known) (count : ℕ) : Type 0 where
  pub book_is : known.book ≡ book
  pub within : count ≤ length known.past.history
  pub keeps : KeepsFirst synced start known.past.history count

abbrev pub marked : Known → ℕ → Bool → Bool → Marked
marked known synced failed is_busy = record { known = known; synced = synced; failed = failed; is_busy = is_busy }

-- The lines that wait: what is known of the history, how many of its entries are entered, and the lines of how many
-- of these were taken.
pub record Stretch : Type 0 where
  pub known : Known
  pub taken : ℕ
  pub entered : ℕ

-- the lines of the entries of the history from one place up to another
abbrev pub lines_between : List Entry → ℕ → ℕ → List ℕ
lines_between history taken entered = lines_for (drop taken (take entered history))

-- No more is entered than the history of this book has, and no more is taken than is entered. The text is the lines of the
-- entries that are entered and not taken.
pub record StretchKeeps (book : Book) (lines : Stretch) (text : List ℕ) : Type 0 where
  pub book_is : lines.known.book ≡ book
  pub within : lines.entered ≤ length lines.known.past.history
  pub taken_within : lines.taken ≤ lines.entered
  pub text_is : text ≡ lines_between lines.known.past.history lines.taken lines.entered

abbrev pub stretch : Known → ℕ → ℕ → Stretch
stretch known taken entered = record { known = known; taken = taken; entered = entered }

-- the entry at the position, the next one, was entered, and what is known now is of this history
pub record Enters (before after : Stretch) (history : List Entry) (position : ℕ) : Type 0 where
  pub turn : position ≡ before.entered
  pub more : after.entered ≡ position + 1
  pub taken : after.taken ≡ before.taken
  pub known : after.known.past.history ≡ history
