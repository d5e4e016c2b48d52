-- what a desk makes of the entries that are there when it opens
use Rattle.std.specs.Prelude.{◌≡◌, ◌<◌, ℕ, List, length, All}
use Rattle.wh_event.specs.declared.entry.Entry.{Entry}
use Rattle.wh_desk.specs.Lists.{AllAt, entries_of, last_position}
use Rattle.wh_desk.specs.Kept.{NoteAt, NoteKnows, list_of}
use Rattle.wh_desk.specs.declared.earlier.Own.{Own}
use Rattle.wh_desk.specs.declared.earlier.Earlier.{Earlier}
use Rattle.wh_desk.specs.declared.earlier.Unopened.{Unopened}
use Rattle.wh_desk.specs.declared.earlier.Unopened.TheVariants as unopened

-- what a caller has that has these entries: a receipt of each, with a note of its cell, and the position of the last
pub record OwnOf (names : List ℕ) (entries : List (ℕ × Entry)) (own : Own) : Type 0 where
  pub receipts : list_of own.held.items ≡ entries
  pub last_is : own.last ≡ last_position entries
  pub notes : AllAt (λ _ x. NoteKnows names x) own.held.items

-- What is made of these entries: each is in a cell, in order, and there is a note of it; each of the callers has its own.
pub record Recalls (names : List ℕ) (callers : ℕ) (entries : List Entry) (made : Earlier) : Type 0 where
  pub cells_are : made.cells ≡ record { names = names; count = length entries }
  pub notes_length : length made.notes.items ≡ length entries
  pub notes_are : AllAt (NoteAt names entries) made.notes.items
  pub callers_within : All (λ entry. entry.caller < callers) entries
  pub owns_length : length made.owns.items ≡ callers
  pub owns_are : AllAt (λ caller own. OwnOf names (entries_of entries caller) own) made.owns.items

-- Why no desk with these cells and callers is opened over this history. One without entries is refused for lack of memory alone.
abbrev pub IsWhyUnopened : (cells callers : ℕ) → List Entry → Unopened → Type 0
IsWhyUnopened cells callers history unopened.NoMemory = Unit {0}
IsWhyUnopened cells callers history unopened.CellTaken = 0 < length history
IsWhyUnopened cells callers history unopened.Full = cells < length history
IsWhyUnopened cells callers history unopened.OtherCaller = All (λ entry. entry.caller < callers) history → ⊥
