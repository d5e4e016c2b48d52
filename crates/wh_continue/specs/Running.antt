-- a run over its log file, from what the file holds to what ends it
use Rattle.std.specs.Prelude.{cond, option_map, ◌≡◌, ◌⊎◌, ℕ, ◌-◌, Bool, true, List, [], ◌∷◌, ◌++◌, length, take, drop, codes, decimal, Option, None, Some, IfSome, MatchOption}
use Rattle.std.specs.Io.KnownBytes.{Appends, Keeps}
use Rattle.wh_points.specs.Points.{Site}
use Rattle.wh_grid.specs.Grids.{Floor}
use Rattle.wh_words.specs.Lines.{text_of as lines_text}
use Rattle.wh_resume.specs.Drafts.{Seen}
use Rattle.wh_replay.specs.declared.asker.Asker.{Asker}
use Rattle.wh_lines.specs.Input.{Input}
use Rattle.wh_log.specs.declared.version.Version.{Version}
use Rattle.wh_log.specs.declared.version.Version.TheVariants.{Two}
use Rattle.wh_log.specs.Logs.{end_line, log_lines, head_line, start_line}
use Rattle.wh_restore.specs.Heads.{IsHeadOf, TellsState}
use Rattle.wh_resume.specs.Resuming.{IsFront}
use Rattle.wh_journal.specs.Scripts.{WritesFront}
use Rattle.wh_journal.specs.Journals.{ReplaysJournaled, lines_for}
use Rattle.wh_journal.specs.Surviving.{StaysLog, told_by}
use Rattle.wh_continue.specs.Closing.{StopsShort}
use Rattle.wh_continue.specs.Delivering.{DeliversOver, StopsDelivering}
use Rattle.wh_continue.specs.Starting.{GoesOnIn, StartsIn, before_of, entries_so_far}
use Rattle.wh_continue.specs.Renewing.{IsHalfRenewed, in_two}
use Rattle.wh_continue.specs.declared.running.KeepFault.{KeepFault}
use Rattle.wh_continue.specs.declared.running.KeepFault.TheVariants.{Unkept, NoMemory}
use Rattle.wh_continue.specs.declared.running.RunFault.{RunFault}
use Rattle.wh_continue.specs.declared.running.RunFault.TheVariants.{Begin, Uncounted, Continue, Deliver, End}
use Rattle.wh_continue.specs.declared.starting.Start.{Start}

-- the line that tells how many entries a run has so far, and the line that ends its log
abbrev pub count_line : ℕ → List ℕ
count_line entries = codes "entries " ++ decimal entries ++ 10 ∷ []

abbrev pub last_line : ℕ → List ℕ
last_line entries = lines_text (end_line entries ∷ [])

-- what ends the log of a run whose input has ended: its last line where the warehouse is closed, since nothing can follow; else nothing
abbrev pub closing : Bool → ℕ → List ℕ
closing closed entries = cond closed (last_line entries) []

-- The lines of a run's entries from this one on, where one is named, as the log has them. Entries are counted from 0, those of logs before
-- this one first: of these none is told.
abbrev pub told_again : Option ℕ → Start → List ℕ
told_again None start = []
told_again (Some first) start = lines_for (drop (first - start.before.entries) start.book.history)

-- what is told before the script: how many entries the run has so far, and those of them that are told again
abbrev pub first_text : Option ℕ → Start → List ℕ
first_text again start = count_line (entries_so_far start) ++ told_again again start

-- the first two lines of the book's log
abbrev pub opening_lines : Seen → List ℕ
opening_lines book = lines_text (head_line Two ∷ start_line book.opening.clock book.opening.slots ∷ [])

-- a run starts from the first two lines of the book's log
abbrev pub from_opening : Seen → Start
from_opening book = record { book = book; bytes = Some (length (opening_lines book)); version = Two; preface = None; before = before_of None }

-- the text is the first two lines of a run in which nothing was done, and the run starts from them
pub record IsOpenedIn (text : List ℕ) (start : Start) : Type 0 where
  pub text_is : text ≡ opening_lines start.book
  pub start_is : start ≡ from_opening start.book
  pub history_is : start.book.history ≡ []

-- a file that tells its bytes holds what the start was found in, or the two lines with which it was begun since
abbrev pub IsStartOf : Option (List ℕ) → Start → Type 0
IsStartOf file start = IfSome file (λ text. ((site : Site) × (slots : List ℕ) × StartsIn site slots text start) ⊎ IsOpenedIn text start)

-- The journal is the log of the book's run, with its last line where the warehouse is closed: the command `verify` takes it then, and
-- without that line where it is asked to.
pub record IsKeptLog (journal : Option (List ℕ)) (book : Seen) : Type 0 where
  pub head : List ℕ
  pub is_head : IsHeadOf book.opening head
  pub journal_is : journal ≡ Some ((head ++ lines_for book.history) ++ closing book.state.closed (length book.history))

-- a front tells the state with which the book began, and behind it stand its entries and the end line
pub record IsWholeBehind (journal : Option (List ℕ)) (book : Seen) : Type 0 where
  pub front : List ℕ
  pub tells : TellsState book.opening front
  pub journal_is : journal ≡ Some ((front ++ lines_for book.history) ++ last_line (length book.history))

-- The log of a closed warehouse is whole: it is a log of version 2, or has a front in place of the first two lines.
abbrev pub ClosedLogsAreWhole : Type 0
ClosedLogsAreWhole =
    (journal : Option (List ℕ)) (book : Seen) → IsKeptLog journal book → book.state.closed ≡ true →
    (journal ≡ Some (lines_text (log_lines Two (told_by book)))) ⊎ IsWholeBehind journal book

-- What is left of a file that was not begun: it is as it was; or, where the run goes on, it is of version 2 now, all of it or
-- its whole lines; or, where it begins, a front of the first two lines.
abbrev pub IsLeftAt : Start → (text left : List ℕ) → Type 0
IsLeftAt start text left = MatchOption start.bytes ((left ≡ text) ⊎ IsFront left (opening_lines start.book)) (λ bytes. IsHalfRenewed start.version bytes text left)

abbrev pub IsLeft : Start → (file holds : Option (List ℕ)) → Type 0
IsLeft start file holds = IfSome file (λ text. (left : List ℕ) × (holds ≡ Some left) × IsLeftAt start text left)

-- Whatever of these is left of a file with which a run goes on is the log of that run, with its two lines or its front: the next start goes
-- on from the same entries.
abbrev pub LeftGoesOn : Type 0
LeftGoesOn =
    (site : Site) (slots text left : List ℕ) (start : Start) (bytes : ℕ) → start.bytes ≡ Some bytes → StartsIn site slots text start → IsLeftAt start text left →
    (version : Version) × GoesOnIn site start.preface version left bytes start.book

-- a file that tells its bytes holds these lines alone, and one that tells nothing tells nothing
abbrev pub Opens : (file holds : Option (List ℕ)) → List ℕ → Type 0
Opens file holds lines = holds ≡ option_map (λ _. lines) file

-- what is left of a file that tells its bytes, and was to hold these lines alone: all that it held, or a front of them
abbrev pub LeavesFront : (file holds : Option (List ℕ)) → List ℕ → Type 0
LeavesFront file holds lines = IfSome file (λ text. (left : List ℕ) × (holds ≡ Some left) × ((left ≡ text) ⊎ IsFront left lines))

-- it was cut to nothing or not, and a front of these lines was written
abbrev pub OpensShort : KeepFault → (file holds : Option (List ℕ)) → Bool → List ℕ → Type 0
OpensShort NoMemory file holds failed lines = holds ≡ file
OpensShort Unkept file holds failed lines = (failed ≡ true) × LeavesFront file holds lines

-- Why a log was not begun: for lack of memory nothing was done; or the file failed.
abbrev pub BeginsShort : KeepFault → Start → (file holds : Option (List ℕ)) → Bool → Type 0
BeginsShort NoMemory start file holds failed = holds ≡ file
BeginsShort Unkept start file holds failed = (failed ≡ true) × IsLeft start file holds

-- Why it was not ended, where it was to end so. What was synced stays so.
abbrev pub EndsShort : KeepFault → (ending : List ℕ) → (file holds synced safe : Option (List ℕ)) → Bool → Type 0
EndsShort NoMemory ending file holds synced safe failed = (holds ≡ file) × (safe ≡ synced)
EndsShort Unkept ending file holds synced safe failed = WritesFront file holds ending × Keeps synced safe × (failed ≡ true)

-- what a run goes on over, of this text: its whole lines, as of version 2, or the two lines where it begins
abbrev pub log_from : Option ℕ → Version → (opening text : List ℕ) → List ℕ
log_from None version opening text = opening
log_from (Some bytes) version opening text = take bytes (in_two version text)

-- a file that tells its bytes was made that
abbrev pub IsBegunFrom : Start → (file begun : Option (List ℕ)) → Type 0
IsBegunFrom start file begun = IfSome file (λ text. begun ≡ Some (log_from start.bytes start.version (opening_lines start.book) text))

-- The number of the entries so far was told, and those that were asked for again, and the file was made the log of the run so
-- far. Again, here and below, says from which entry on they are told again, if they are.
pub record Counts (again : Option ℕ) (start : Start) (had counted file begun : Option (List ℕ)) : Type 0 where
  pub counts : Appends had counted (first_text again start)
  pub begins : StaysLog file begun start.book
  pub begun_is : IsBegunFrom start file begun

-- That was told, the script was served to its end, and all was delivered behind it, where that was asked for, each reply told when its entry was
-- synced, and the file was given what ends the log: it is the log of the whole run. Deliver, here and below, says whether it was asked for.
pub record RunsOn {X : Type 0} (fits : X → Floor → Bool) (count : X → ℕ) (asker : Asker) (again : Option ℕ) (deliver : Bool) (before after : Input) (start : Start) (spares : List X) (new : Seen) (rest : List X)
    (had has file synced holds : Option (List ℕ)) : Type 0 where
  pub counted : Option (List ℕ)
  pub begun : Option (List ℕ)
  pub counts : Counts again start had counted file begun
  pub safe : Option (List ℕ)
  pub kept : Option (List ℕ)
  pub served : Seen
  pub answered : Option (List ℕ)
  pub replays : ReplaysJournaled fits count asker before after start.book spares served rest counted answered begun safe kept
  pub sure : Option (List ℕ)
  pub full : Option (List ℕ)
  pub delivers : DeliversOver deliver asker served new answered has kept sure full
  pub ends : Appends full holds (closing new.state.closed (length new.history))
  pub synced_is : synced ≡ holds
  pub whole : IfSome file (λ _. IsKeptLog holds new)

-- Why a run was not brought to its end.
abbrev pub StopsRun : {X : Type 0} → (X → Floor → Bool) → (X → ℕ) → Asker → (again : Option ℕ) → (deliver : Bool) → RunFault → (before after : Input) → Start → (planners spares rest : List X)
    → (had has file : Option (List ℕ)) → Bool → (synced holds : Option (List ℕ)) → Type 0
StopsRun fits count asker again deliver (Begin fault) before after start planners spares rest had has file failed synced holds =
    (after ≡ before) × (rest ≡ spares) × (has ≡ had) × BeginsShort fault start file holds failed
StopsRun fits count asker again deliver Uncounted before after start planners spares rest had has file failed synced holds =
    (after ≡ before) × (rest ≡ spares) × WritesFront had has (first_text again start) × StaysLog file holds start.book × (synced ≡ holds) × IsBegunFrom start file holds
StopsRun fits count asker again deliver (Continue fault) before after start planners spares rest had has file failed synced holds =
    (counted : Option (List ℕ)) × (begun : Option (List ℕ)) × Counts again start had counted file begun
    × StopsShort fits count asker fault before after start.book planners spares rest counted has begun failed synced holds
StopsRun fits count asker again deliver (Deliver fault) before after start planners spares rest had has file failed synced holds =
    (deliver ≡ true) × ((counted : Option (List ℕ)) × (begun : Option (List ℕ)) × Counts again start had counted file begun
    × ((served : Seen) × (answered : Option (List ℕ)) × (safe : Option (List ℕ)) × (kept : Option (List ℕ))
    × ReplaysJournaled fits count asker before after start.book spares served rest counted answered begun safe kept
    × ((new : Seen) × StopsDelivering fault asker served new answered has kept failed synced holds)))
StopsRun fits count asker again deliver (End fault) before after start planners spares rest had has file failed synced holds =
    (counted : Option (List ℕ)) × (begun : Option (List ℕ)) × Counts again start had counted file begun
    × ((served : Seen) × (answered : Option (List ℕ)) × (safe : Option (List ℕ)) × (kept : Option (List ℕ))
    × ReplaysJournaled fits count asker before after start.book spares served rest counted answered begun safe kept
    × ((new : Seen) × (sure : Option (List ℕ)) × (full : Option (List ℕ))
    × DeliversOver deliver asker served new answered has kept sure full
    × EndsShort fault (closing new.state.closed (length new.history)) full holds sure synced failed))
