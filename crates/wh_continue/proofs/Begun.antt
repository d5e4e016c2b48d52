-- A log file that was begun, or ended.
use Rattle.std.proofs.Common.{◌≡◌, inl, inr, ℕ, zero, suc, List, [], ◌∷◌, ◌++◌, length, take, drop, refl, sym, ap, ◌∙◌, subst, Option, None, Some, take-append-drop}
use Rattle.std.specs.Prelude.{Bool, true, false, IfSome, MatchOption, OnErr, Result, Ok, Err, is_some, unwrap_or}
use Rattle.std.proofs.Math.Seq.{take-length}
use Rattle.std.specs.Io.KnownBytes.{Appends}
use Rattle.wh_words.specs.Lines.{text_of as lines_text}
use Rattle.wh_points.specs.Points.{Site}
use Rattle.wh_resume.specs.Drafts.{Seen}
use Rattle.wh_event.specs.declared.entry.Entry.{Entry}
use Rattle.wh_log.specs.declared.version.Version.{Version}
use Rattle.wh_log.specs.declared.version.Version.TheVariants.{Two}
use Rattle.wh_log.specs.Logs.{Content, end_line}
use Rattle.wh_log.specs.Torn.{begun_lines}
use Rattle.wh_log.proofs.Fronts.{text-append}
use Rattle.wh_journal.specs.Cutting.{front_of, MayCut}
use Rattle.wh_journal.specs.Scripts.{WritesFront}
use Rattle.wh_journal.specs.Journals.{lines_for}
use Rattle.wh_journal.specs.Surviving.{told_by, IsLogOfBook, HoldsLog, StaysLog}
use Rattle.wh_journal.proofs.Telling.{log_of_two, two_lines}
use Rattle.wh_resume.specs.Resuming.{Tells}
use Rattle.wh_resume.specs.declared.recovery.Recovery.{Recovery}
use Rattle.wh_resume.specs.declared.recovery.Recovery.TheVariants as told
use Rattle.wh_continue.specs.Starting.{Begins, BreaksAt, GoesOnIn, first_lines}
use Rattle.wh_continue.specs.declared.running.KeepFault.{KeepFault}
use Rattle.wh_continue.specs.Renewing.{LeavesHalfRenewed, in_two, told_in_two}
use Rattle.wh_continue.specs.Running.{ClosedLogsAreWhole, IsBegunFrom, IsStartOf, IsKeptLog, IsLeft, IsLeftAt, LeavesFront, Opens, from_opening, log_from, opening_lines, closing, last_line}
use Rattle.wh_continue.specs.Opening.{IsOpened}
use Rattle.wh_continue.specs.declared.starting.Start.{Start}
use Rattle.wh_continue.proofs.Closing.{begins_at, goes_at, whole_in}

-- what stands for a file: it holds the book's log, if it tells its bytes, and does tell them if it did
pub record Stands (file new : Option (List ℕ)) (book : Seen) : Type 0 where
  pub stays : StaysLog file new book
  pub holds : HoldsLog new book

opening_of_none : (book : Seen) → book.history ≡ [] → IsLogOfBook (Some (opening_lines book)) book
opening_of_none book none =
    log_of_two (Some (opening_lines book)) book
    (ap (λ (es : List Entry). Some (lines_text (begun_lines Two (let c : Content = record { clock = book.opening.clock; slots = book.opening.slots; entries = es } in c)))) (sym none))

opening_is_log : (site : Site) (slots text : List ℕ) (book : Seen) → Begins site slots text book → IsLogOfBook (Some (opening_lines book)) book
opening_is_log site slots text book begins = opening_of_none book begins.unbegun.history_is

-- a front that is all of it
opened_whole : (text lines : List ℕ) (new : Option (List ℕ)) (bytes : ℕ) → text ≡ lines → bytes ≡ length lines → new ≡ front_of bytes (Some text) → new ≡ Some lines
opened_whole text lines new bytes is count front =
    front ∙ ap (λ (n : ℕ). Some (take n text)) count ∙ ap (λ (t : List ℕ). Some (take (length lines) t)) is ∙ ap (λ (l : List ℕ). Some l) (take-length lines)

-- one that starts from the two lines was begun
never_opened : (start : Start) → start.bytes ≡ None → start ≡ from_opening start.book → ⊥
never_opened start is opened =
    let bad : ◌≡◌ {A = Option ℕ} None (Some (length (opening_lines start.book))) = sym is ∙ ap (λ (s : Start). s.bytes) opened in
    cc

stands_some : (text : List ℕ) (new : Option (List ℕ)) (book : Seen) → IsLogOfBook new book → Stands (Some text) new book
stands_some text new book is = record {
  stays = is;
  holds = subst (λ (n : Option (List ℕ)). HoldsLog n book) (sym is.journal_is) (record { head = is.head; is_head = is.is_head; journal_is = refl });
}

-- the same journal
log_is : (new : Option (List ℕ)) (text : List ℕ) (book : Seen) → new ≡ Some text → IsLogOfBook (Some text) book → IsLogOfBook new book
log_is new text book is log = subst (λ (n : Option (List ℕ)). IsLogOfBook n book) (sym is) log

-- where the run goes on, the file was cut behind its whole lines
pub begun_found : (file new : Option (List ℕ)) (start : Start) (bytes : ℕ) → IsStartOf file start → start.bytes ≡ Some bytes → new ≡ front_of bytes (told_in_two start.version file) → Stands file new start.book
begun_found None new start bytes of is cut = record { stays = tt; holds = subst (λ (n : Option (List ℕ)). HoldsLog n start.book) (sym cut) tt }
begun_found (Some text) new start bytes (inr of) is cut =
    let version : start.version ≡ Two = ap (λ (s : Start). s.version) of.start_is in
    let count : bytes ≡ length (opening_lines start.book) = ap (λ (b : Option ℕ). unwrap_or b 0) (sym is ∙ ap (λ (s : Start). s.bytes) of.start_is) in
    let front : new ≡ front_of bytes (Some text) = subst (λ (v : Version). new ≡ front_of bytes (told_in_two v (Some text))) version cut in
    stands_some text new start.book (log_is new (opening_lines start.book) start.book (opened_whole text (opening_lines start.book) new bytes of.text_is count front) (opening_of_none start.book of.history_is))
begun_found (Some text) new start bytes (inl of) is cut =
    let from : GoesOnIn of.0 start.preface start.version text bytes start.book = goes_at of.0 of.1 text start.preface start.version start.book start.bytes bytes is of.2.at in
    stands_some text new start.book (log_is new (take bytes (in_two start.version text)) start.book cut (whole_in of.0 start.preface start.version text bytes start.book from))

-- it has these very bytes
pub begun_from : (file new : Option (List ℕ)) (start : Start) (bytes : ℕ) → start.bytes ≡ Some bytes → new ≡ front_of bytes (told_in_two start.version file) → IsBegunFrom start file new
begun_from None new start bytes is cut = tt
begun_from (Some text) new start bytes is cut = cut ∙ ap (λ (b : Option ℕ). Some (log_from b start.version (opening_lines start.book) text)) (sym is)

pub begun_from_new : (file new : Option (List ℕ)) (start : Start) → start.bytes ≡ None → Opens file new (opening_lines start.book) → IsBegunFrom start file new
begun_from_new None new start is opens = tt
begun_from_new (Some text) new start is opens = opens ∙ ap (λ (b : Option ℕ). Some (log_from b start.version (opening_lines start.book) text)) (sym is)

-- the two lines stand alone in a file that was emptied
opened_alone : (bytes : List ℕ) (new : Option (List ℕ)) → Appends (Some []) new bytes → new ≡ Some bytes
opened_alone bytes None a = absurd a
opened_alone bytes (Some ys) a = ap (λ (l : List ℕ). Some l) a

pub opens_alone : (file cut new : Option (List ℕ)) (lines : List ℕ) → cut ≡ front_of 0 file → Appends cut new lines → (cut ≡ None → new ≡ None) → Opens file new lines
opens_alone None cut new lines emptied added silent = silent emptied
opens_alone (Some text) cut new lines emptied added silent = opened_alone lines new (subst (λ (c : Option (List ℕ)). Appends c new lines) emptied added)

-- or a front of them does
pub opens_front : (file cut new : Option (List ℕ)) (lines : List ℕ) → cut ≡ front_of 0 file → WritesFront cut new lines
    → LeavesFront file new lines
opens_front None cut new lines emptied front = tt
opens_front (Some text) cut new lines emptied front = (
  take front.count lines,
  opened_alone (take front.count lines) new (subst (λ (c : Option (List ℕ)). Appends c new (take front.count lines)) emptied front.appends),
  inr (record { rest = drop front.count lines; is = sym (take-append-drop front.count lines) }),
)

pub opens_uncut : (file new : Option (List ℕ)) (lines : List ℕ) → MayCut 0 file new → LeavesFront file new lines
opens_uncut None new lines may = tt
opens_uncut (Some text) new lines may = elim may [
  | inl same ↦ (text, same, inl refl)
  | inr emptied ↦ ([], emptied, inr (record { rest = lines; is = refl }))
]

-- where it begins, the two lines were written
pub begun_new : (file new : Option (List ℕ)) (start : Start) → IsStartOf file start → start.bytes ≡ None → Opens file new (opening_lines start.book) → Stands file new start.book
begun_new None new start of is opens = record { stays = tt; holds = subst (λ (n : Option (List ℕ)). HoldsLog n start.book) (sym opens) tt }
begun_new (Some text) new start (inr of) is opens = absurd (never_opened start is of.start_is)
begun_new (Some text) new start (inl of) is opens =
    let from : Begins of.0 of.1 text start.book = (begins_at of.0 of.1 text start.preface start.version start.book start.bytes is of.2.at).0 in
    stands_some text new start.book (log_is new (opening_lines start.book) start.book opens (opening_is_log of.0 of.1 text start.book from))

-- ---- a log that is begun before the file beside it

-- the run starts from the two lines
pub opened_here : (file new : Option (List ℕ)) (start : Start) → IsStartOf file start → start.bytes ≡ None → Opens file new (opening_lines start.book) → IsStartOf new (from_opening start.book)
opened_here None new start of is opens = subst (λ (n : Option (List ℕ)). IsStartOf n (from_opening start.book)) (sym opens) tt
opened_here (Some text) new start (inr of) is opens = absurd (never_opened start is of.start_is)
opened_here (Some text) new start (inl of) is opens =
    let from : Begins of.0 of.1 text start.book = (begins_at of.0 of.1 text start.preface start.version start.book start.bytes is of.2.at).0 in
    subst (λ (n : Option (List ℕ)). IsStartOf n (from_opening start.book)) (sym opens) (inr (record { text_is = refl; start_is = refl; history_is = from.unbegun.history_is }))

pub opened_so : (file new : Option (List ℕ)) (start : Start) → start.bytes ≡ None → Opens file new (opening_lines start.book) → IsOpened start (from_opening start.book) file new
opened_so file new start is opens =
    subst (λ (b : Option ℕ). MatchOption b ((from_opening start.book ≡ from_opening start.book) × Opens file new (opening_lines start.book)) (λ _. (from_opening start.book ≡ start) × (new ≡ file))) (sym is) (refl, opens)

-- and one that was begun is as it was
some_still : (b : Option ℕ) (P Q : Type 0) → is_some b ≡ true → Q → MatchOption b P (λ _. Q)
some_still None P Q is q = cc
some_still (Some n) P Q is q = q

pub opened_still : (file new : Option (List ℕ)) (start : Start) → is_some start.bytes ≡ true → new ≡ file → IsOpened start start file new
opened_still file new start is same = some_still start.bytes _ _ is (refl, same)

-- a file that was not begun
pub left_found : (file new : Option (List ℕ)) (start : Start) (bytes : ℕ) → start.bytes ≡ Some bytes → LeavesHalfRenewed start.version bytes file new → IsLeft start file new
left_found None new start bytes is half = tt
left_found (Some text) new start bytes is half = (
  half.0,
  half.1,
  subst (λ (b : Option ℕ). IsLeftAt (record { book = start.book; bytes = b; version = start.version; preface = start.preface; before = start.before }) text half.0) (sym is) half.2,
)

pub left_new : (file new : Option (List ℕ)) (start : Start) → start.bytes ≡ None
    → LeavesFront file new (opening_lines start.book) → IsLeft start file new
left_new None new start is left = tt
left_new (Some text) new start is left = (
  left.0,
  left.1,
  subst (λ (b : Option ℕ). IsLeftAt (record { book = start.book; bytes = b; version = start.version; preface = start.preface; before = start.before }) text left.0) (sym is) left.2,
)

-- the log of the book and what ends it are the log that is kept
pub ended : (kept holds : Option (List ℕ)) (book : Seen) → IsLogOfBook kept book → Appends kept holds (closing book.state.closed (length book.history)) → IsKeptLog holds book
ended kept holds book log ends = record {
  head = log.head;
  is_head = log.is_head;
  journal_is = opened_alone_behind (log.head ++ lines_for book.history) (closing book.state.closed (length book.history)) holds
      (subst (λ (k : Option (List ℕ)). Appends k holds (closing book.state.closed (length book.history))) log.journal_is ends);
}
  where
    opened_alone_behind : (text bytes : List ℕ) (new : Option (List ℕ)) → Appends (Some text) new bytes → new ≡ Some (text ++ bytes)
    opened_alone_behind text bytes None a = absurd a
    opened_alone_behind text bytes (Some ys) a = ap (λ (l : List ℕ). Some l) a

pub closed_whole : ClosedLogsAreWhole
closed_whole journal book kept closed = elim kept.is_head [
  | inl two ↦ inl (all_is ∙ ap (λ (l : List ℕ). Some l)
      (ap (λ (h : List ℕ). (h ++ lines_for book.history) ++ last_line (length book.history)) two
      ∙ ap (λ (t : List ℕ). t ++ last_line (length book.history)) (sym (two_lines (told_by book)))
      ∙ sym (text-append (begun_lines Two (told_by book)) (end_line (length book.history) ∷ []))))
  | inr tells ↦ inr (record { front = kept.head; tells = tells; journal_is = all_is })
]
  where
    all_is : journal ≡ Some ((kept.head ++ lines_for book.history) ++ last_line (length book.history))
    all_is = kept.journal_is ∙ ap (λ (b : Bool). Some ((kept.head ++ lines_for book.history) ++ closing b (length book.history))) closed

abbrev no_bytes : List ℕ
no_bytes = []

none_taken : (n : ℕ) → take n no_bytes ≡ no_bytes
none_taken zero = refl
none_taken (suc n) = refl

-- a front of what ends a log is a front of its last line
pub closing_front : (closed : Bool) (entries : ℕ) (had has : Option (List ℕ)) → WritesFront had has (closing closed entries) → WritesFront had has (last_line entries)
closing_front true entries had has front = front
closing_front false entries had has front = record { count = 0; appends = subst (λ (bytes : List ℕ). Appends had has bytes) (none_taken front.count) front.appends }

-- all was written: so a front of it was
pub front_whole : (had has : Option (List ℕ)) (bytes : List ℕ) → Appends had has bytes → WritesFront had has bytes
front_whole had has bytes a = record { count = length bytes; appends = subst (λ (bs : List ℕ). Appends had has bs) (sym (take-length bytes)) a }

-- why a text was not written
pub alone_short : {A : Type 0} (said : Result A KeepFault) (file cut new : Option (List ℕ)) (lines : List ℕ) → OnErr said (WritesFront cut new lines) → cut ≡ front_of 0 file
    → OnErr said (LeavesFront file new lines)
alone_short (Ok a) file cut new lines front emptied = tt
alone_short (Err f) file cut new lines front emptied = opens_front file cut new lines emptied front

-- a text that is refused
pub bad_from : (site : Site) (slots begun text : List ℕ) (line bytes : ℕ) (said : Recovery) → Tells site begun text said → said ≡ told.Bad line bytes
    → begun ≡ first_lines slots → BreaksAt site slots text line
bad_from site slots begun text line bytes said tells is same =
    let t : Tells site (first_lines slots) text (told.Bad line bytes) =
    subst (λ (b : List ℕ). Tells site b text (told.Bad line bytes)) same (subst (λ (r : Recovery). Tells site begun text r) is tells) in
    record { bytes = bytes; ends = t.0; why = t.1 }

-- through all: the file was begun, the script was served over it, and it was ended
pub whole_log : (file begun kept holds : Option (List ℕ)) (old new : Seen) → StaysLog file begun old → StaysLog begun kept new
    → Appends kept holds (closing new.state.closed (length new.history)) → IfSome file (λ (_ : List ℕ). IsKeptLog holds new)
whole_log None begun kept holds old new first then ends = tt
whole_log (Some text) begun kept holds old new first then ends =
    ended kept holds new (subst (λ (b : Option (List ℕ)). StaysLog b kept new) first.journal_is then) ends
