-- The journal stays the log of the book.
use Rattle.std.proofs.Common.{◌≡◌, ℕ, List, [], ◌++◌, map, ap, sym, ◌∙◌, refl, subst, inl, Option, None, Some, Bool, append_assoc}
use Rattle.std.proofs.lemmas.List.{map-append}
use Rattle.std.specs.Io.KnownBytes.{Appends}
use Rattle.wh_words.specs.Lines.{text_of as lines_text}
use Rattle.wh_grid.specs.Grids.{Floor}
use Rattle.wh_core.specs.States.{State}
use Rattle.wh_token.specs.Drafts.{Seen}
use Rattle.wh_event.specs.declared.entry.Entry.{Entry}
use Rattle.wh_replay.specs.declared.asker.Asker.{Asker}
use Rattle.wh_lines.specs.Input.{Input}
use Rattle.wh_log.specs.Logs.{Content}
use Rattle.wh_log.specs.Spelling.{entry_line}
use Rattle.wh_log.specs.Torn.{begun_lines}
use Rattle.wh_log.specs.declared.version.Version.TheVariants.{Two}
use Rattle.wh_log.proofs.Fronts.{text-append}
use Rattle.wh_restore.specs.Heads.{IsHeadOf, first_two_lines}
use Rattle.wh_journal.specs.Journals.{lines_for, ReplaysJournaled}
use Rattle.wh_journal.specs.Surviving.{IsLogOfBook, HoldsLog, StaysLog, told_by}
use Rattle.wh_journal.proofs.Surviving.{begun_grown}

appended : (holds : Option (List ℕ)) (text bs : List ℕ) → Appends (Some text) holds bs → holds ≡ Some (text ++ bs)
appended None text bs p = absurd p
appended (Some x) text bs p = ap (λ (l : List ℕ). Some l) p

-- ---- logs that begin with two lines

-- a log of version 2 is its first two lines and the lines of its entries
pub two_lines : (content : Content) → lines_text (begun_lines Two content) ≡ first_two_lines content.clock content.slots ++ lines_for content.entries
two_lines content = begun_grown (record { clock = content.clock; slots = content.slots; entries = [] }) content.entries

-- so the log of version 2 of what a book has is its log
pub log_of_two : (journal : Option (List ℕ)) (book : Seen) → journal ≡ Some (lines_text (begun_lines Two (told_by book))) → IsLogOfBook journal book
log_of_two journal book is = record {
  head = first_two_lines book.opening.clock book.opening.slots;
  is_head = inl refl;
  journal_is = is ∙ ap (λ (l : List ℕ). Some l) (two_lines (told_by book));
}

-- ---- a log that grows

pub lines_join : (some more : List Entry) → lines_for (some ++ more) ≡ lines_for some ++ lines_for more
lines_join some more = ap lines_text (map-append entry_line some more) ∙ text-append (map entry_line some) (map entry_line more)

-- the lines of further entries behind the log of a book make it that of the book that has grown by them
pub log_grows : (kept full : Option (List ℕ)) (old new : Seen) (added : List Entry) → new.history ≡ old.history ++ added → new.opening ≡ old.opening → Appends kept full (lines_for added)
    → IsLogOfBook kept old → IsLogOfBook full new
log_grows kept full old new added history opening adds is =
    let whole = is.head ++ lines_for old.history in
    let grew : Appends (Some whole) full (lines_for added) = subst (λ (k : Option (List ℕ)). Appends k full (lines_for added)) is.journal_is adds in
    record {
      head = is.head;
      is_head = subst (λ (s : State). IsHeadOf s is.head) (sym opening) is.is_head;
      journal_is = appended full whole (lines_for added) grew
          ∙ ap (λ (l : List ℕ). Some l)
          (append_assoc is.head (lines_for old.history) (lines_for added) ∙ ap (λ (l : List ℕ). is.head ++ l) (sym (lines_join old.history added) ∙ ap lines_for (sym history)));
    }

pub stays_log : {X : Type 0} (fits : X → Floor → Bool) (count : X → ℕ) (asker : Asker) (before after : Input) (old : Seen) (spares : List X) (new : Seen) (rest : List X) (had has journal synced holds : Option (List ℕ))
    → ReplaysJournaled fits count asker before after old spares new rest had has journal synced holds → HoldsLog journal old → StaysLog journal holds new
stays_log fits count asker before after old spares new rest had has None synced holds r is = tt
stays_log fits count asker before after old spares new rest had has (Some held) synced holds r is =
    log_grows (Some held) holds old new r.added r.serves.added_are r.serves.output.opening r.stands is
