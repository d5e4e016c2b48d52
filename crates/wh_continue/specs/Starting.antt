-- how a run starts over what its log file holds
use Rattle.std.specs.Prelude.{◌≡◌, ◌<◌, ◌≤◌, ◌+◌, ◌^◌, ◌⊎◌, ℕ, Bool, List, [], ◌∷◌, cond, length, Option, None, Some, IfSome, MatchOption, slice_get}
use Rattle.std.specs.List.{sum_by}
use Rattle.wh_points.specs.Points.{Site}
use Rattle.wh_words.specs.Lines.{text_of as lines_text}
use Rattle.wh_core.specs.States.{opened}
use Rattle.wh_resume.specs.Drafts.{Seen}
use Rattle.wh_log.specs.declared.version.Version.{Version}
use Rattle.wh_log.specs.declared.version.Version.TheVariants.{Two}
use Rattle.wh_log.specs.Logs.{Content, IsSlots, head_line, start_line}
use Rattle.wh_log.specs.Torn.{Holds, IsUnopened}
use Rattle.wh_front.specs.declared.front.Count.{Count}
use Rattle.wh_front.specs.Ranges.{are_told}
use Rattle.wh_resume.specs.declared.recovery.Preface.{Preface}
use Rattle.wh_resume.specs.Resuming.{EndsBefore, GoesOn, IsFront, IsWhyBad}
use Rattle.wh_resume.specs.Behind.{GoesOnBehind, IsFlawed}
use Rattle.wh_event.specs.declared.entry.Entry.{Entry}
use Rattle.wh_event.specs.declared.reply.Reply.{Reply}
use Rattle.wh_event.specs.declared.reply.Reply.TheVariants.{Replaced}
use Rattle.wh_continue.specs.Before.{Before}
use Rattle.wh_continue.specs.declared.starting.Start.{Start}
use Rattle.wh_continue.specs.declared.starting.StartFault.{StartFault}
use Rattle.wh_continue.specs.declared.starting.StartFault.TheVariants.{Bad, Flawed, Unread, NoMemory}

-- the first two lines of the log of a run that is at clock 0 with these slots
abbrev pub first_lines : List ℕ → List ℕ
first_lines slots = lines_text (head_line Two ∷ start_line 0 slots ∷ [])

-- nothing was done yet: the book is at clock 0, with these slots
pub record IsUnbegun (site : Site) (slots : List ℕ) (book : Seen) : Type 0 where
  pub site_is : book.site ≡ site
  pub opening_is : book.opening ≡ opened site.layout 0 slots
  pub history_is : book.history ≡ []

-- The file is empty, or holds a beginning of the first two lines of this very run, and no more: the run begins.
pub record Begins (site : Site) (slots text : List ℕ) (book : Seen) : Type 0 where
  pub unopened : IsUnopened text
  pub front : IsFront text (first_lines slots)
  pub unbegun : IsUnbegun site slots book

-- The lines that stand whole in this many bytes are the log of a run of this site, in this version, except for its end line, and
-- the book goes on from their entries. After them comes the end line, or bytes with no line feed.
pub record GoesOnFrom (site : Site) (version : Version) (text : List ℕ) (bytes : ℕ) (book : Seen) : Type 0 where
  pub content : Content
  pub is_ended : Bool
  pub holds : Holds version content is_ended text bytes
  pub goes_on : GoesOn site content book

-- The same of a log that begins with two lines, in this version, or, with a preface, with a front, which is of version 3: from there on it is
-- one of version 2.
abbrev pub GoesOnIn : Site → Option Preface → Version → (text : List ℕ) → (bytes : ℕ) → (book : Seen) → Type 0
GoesOnIn site None version text bytes book = GoesOnFrom site version text bytes book
GoesOnIn site (Some preface) version text bytes book = (version ≡ Two) × ((is_ended : Bool) × GoesOnBehind site text bytes is_ended preface book)

-- in a log that begins with two lines, or with the front that told this
abbrev pub before_of : Option Preface → Before
before_of None = record { entries = 0; lines = 2 }
before_of (Some preface) = record { entries = sum_by (λ (count : Count). count.entries) preface.head.counts; lines = preface.lines }

-- a run begins, or goes on with the lines that stand whole in so many bytes
abbrev pub StartsAt : Site → (slots text : List ℕ) → Option Preface → Version → (book : Seen) → (bytes : Option ℕ) → Type 0
StartsAt site slots text preface version book bytes =
    MatchOption bytes (Begins site slots text book × (preface ≡ None)) (λ count. GoesOnIn site preface version text count book)

-- what a run starts from
pub record StartsIn (site : Site) (slots text : List ℕ) (start : Start) : Type 0 where
  pub at : StartsAt site slots text start.preface start.version start.book start.bytes
  pub before_is : start.before ≡ before_of start.preface
  pub few : start.before.entries < 2 ^ 63

-- how many entries the run has so far, in all its logs
abbrev pub entries_so_far : Start → ℕ
entries_so_far start = start.before.entries + length start.book.history

-- The file was read, and this is what a run starts from. A file that tells its bytes was read as it was.
pub record StartsByFile (site : Site) (slots : List ℕ) (file : Option (List ℕ)) (start : Start) : Type 0 where
  pub text : List ℕ
  pub text_is : IfSome file (λ held. text ≡ held)
  pub starts : StartsIn site slots text start

-- a planner that is put in another's place has 2 to 64 slots, as each planner that the program makes
abbrev pub HasOwnSlots : Reply → Type 0
HasOwnSlots (Replaced slots) = IsSlots slots
HasOwnSlots reply = Unit {0}

-- and this holds for each entry
abbrev pub AllOwn : List Entry → Type 0
AllOwn history = (k : ℕ) (entry : Entry) → slice_get history k ≡ Some entry → HasOwnSlots entry.reply

-- at this place stands the first entry that tells of a planner with another number of slots
pub record IsFirstOther (history : List Entry) (place : ℕ) : Type 0 where
  pub entry : Entry
  pub there : slice_get history place ≡ Some entry
  pub other : HasOwnSlots entry.reply → ⊥
  pub earlier : (k : ℕ) (before : Entry) → k < place → slice_get history k ≡ Some before → HasOwnSlots before.reply

-- The log of a run in which this line, from 1, is the first that tells of such a planner.
pub record NamesOther (site : Site) (text : List ℕ) (line : ℕ) : Type 0 where
  pub preface : Option Preface
  pub version : Version
  pub bytes : ℕ
  pub book : Seen
  pub goes_on : GoesOnIn site preface version text bytes book
  pub place : ℕ
  pub first : IsFirstOther book.history place
  pub line_is : line ≡ (before_of preface).lines + (place + 1)

-- the line of a front that tells how many entries each caller had
abbrev pub counts_line : Preface → ℕ
counts_line preface = cond (are_told preface.head.rules.homes preface.head.rules.age) 5 4

-- The log of a run behind a front that tells of 2^63 entries or more: so many no run has. This is the line that tells it.
pub record CountsTooMany (site : Site) (text : List ℕ) (line : ℕ) : Type 0 where
  pub preface : Preface
  pub bytes : ℕ
  pub book : Seen
  pub goes_on : GoesOnIn site (Some preface) Two text bytes book
  pub many : 2 ^ 63 ≤ (before_of (Some preface)).entries
  pub line_is : line ≡ counts_line preface

-- the line of the first entry that tells of such a planner, or that of such counts
abbrev pub IsWhyNotOn : Option Preface → List Entry → StartFault → Type 0
IsWhyNotOn preface history (Bad line) =
    ((place : ℕ) × IsFirstOther history place × (line ≡ (before_of preface).lines + (place + 1)))
    ⊎ ((told : Preface) × (preface ≡ Some told) × (2 ^ 63 ≤ (before_of preface).entries) × (line ≡ counts_line told))
IsWhyNotOn preface history (Flawed line reason) = ⊥
IsWhyNotOn preface history Unread = ⊥
IsWhyNotOn preface history NoMemory = ⊥

-- For a text with which no run goes on: the first line, from 1, with which no log of a run of this site goes on; or, where
-- fewer than two lines stand whole, the first that is not as it was to be written.
pub record BreaksAt (site : Site) (slots text : List ℕ) (line : ℕ) : Type 0 where
  pub bytes : ℕ
  pub ends : EndsBefore text line bytes
  pub why : IsWhyBad site (first_lines slots) text line

-- Why no run starts over a file, by what it was read as. A log that tells of a planner which the program could not make, or of more entries
-- than a run has, is refused with that line.
abbrev pub IsWhyNoStart : Site → (slots : List ℕ) → (file : Option (List ℕ)) → StartFault → Type 0
IsWhyNoStart site slots file (Bad line) =
    (text : List ℕ) × IfSome file (λ held. text ≡ held) × (BreaksAt site slots text line ⊎ NamesOther site text line ⊎ CountsTooMany site text line)
IsWhyNoStart site slots file (Flawed line reason) = (text : List ℕ) × IfSome file (λ held. text ≡ held) × IsFlawed site text line reason
IsWhyNoStart site slots file Unread = Unit {0}
IsWhyNoStart site slots file NoMemory = Unit {0}
