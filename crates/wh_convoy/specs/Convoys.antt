-- what is served, what stands in the two files, and what is told
use Rattle.std.specs.Prelude.{◌≡◌, ◌⊎◌, ℕ, Bool, true, List, [], ◌++◌, Option}
use Rattle.std.specs.Io.KnownBytes.{Appends, Keeps, IsAtEnd}
use Rattle.wh_text.specs.Lines.{lines_of, IsLine}
use Rattle.wh_words.specs.Lines.{text_of as lines_text}
use Rattle.wh_lines.specs.Text.{EndsLine}
use Rattle.wh_lines.specs.Input.{Input, left, Takes}
use Rattle.wh_lines.specs.Output.{WritesFront}
use Rattle.wh_grid.specs.Grids.{Floor}
use Rattle.wh_event.specs.declared.entry.Entry.{Entry}
use Rattle.wh_replay.specs.declared.asker.Asker.{Asker}
use Rattle.wh_book.specs.Drafts.{Seen}
use Rattle.wh_replay.specs.Answers.{text_of}
use Rattle.wh_drive.specs.Drives.{Drive}
use Rattle.wh_dispatch.specs.Crews.{Crew, IsManned}
use Rattle.wh_dispatch.specs.Lines.{Depot}
use Rattle.wh_journal.specs.Journals.{lines_for}
use Rattle.wh_journal.specs.declared.rounds.Round.{Round}
use Rattle.wh_journal.specs.declared.rounds.Round.TheVariants.{Served, Ended}
use Rattle.wh_dispatch.specs.Keeping.{KeepsAll}
use Rattle.wh_convoy.specs.declared.fault.ConvoyFault.{ConvoyFault}
use Rattle.wh_convoy.specs.declared.fault.ConvoyFault.TheVariants.{Unkept}

-- of the log and the file of arrivals, what they hold, or what of it was synced
pub record Held : Type 0 where
  pub log : Option (List ℕ)
  pub arrivals : Option (List ℕ)

-- These bytes are whole lines, and were served: these are what they are told, these of them are kept, and by these entries,
-- theirs, the history has grown.
pub record ConvoysLines {X : Type 0} (fits : X → Floor → Bool) (count : X → ℕ) (asker : Asker) (bound : ℕ) (old new : Depot X)
    (read : List ℕ) (texts kept : List (List ℕ)) (added : List Entry) : Type 0 where
  pub whole : EndsLine read
  pub all : KeepsAll fits count asker bound (lines_of read) old new texts kept
  pub added_are : new.book.history ≡ old.book.history ++ added

-- what ended a round: no whole line waits that is served, or all was read
abbrev pub EndsBy : Round → Input → List ℕ → Type 0
EndsBy Served after begun = begun ≡ []
EndsBy Ended after begun = IsLine begun × IsAtEnd (left after)

-- Whole lines were served. The lines of the entries stand in the log, and those of the reports that moved vehicles in the file of
-- arrivals, all synced; and what the lines are told is written.
pub record ConvoysOn {X : Type 0} (fits : X → Floor → Bool) (count : X → ℕ) (asker : Asker) (bound : ℕ) (round : Round) (before after : Input) (old new : Depot X)
    (had has : Option (List ℕ)) (stood stands synced : Held) : Type 0 where
  pub read : List ℕ
  pub begun : List ℕ
  pub takes : Takes before after (read ++ begun)
  pub ends : EndsBy round after begun
  pub texts : List (List ℕ)
  pub kept : List (List ℕ)
  pub added : List Entry
  pub lines : ConvoysLines fits count asker bound old new read texts kept added
  pub log : Appends stood.log stands.log (lines_for added)
  pub arrivals : Appends stood.arrivals stands.arrivals (lines_text kept)
  pub synced_is : synced ≡ stands
  pub told : Appends had has (text_of texts)

-- A front of the text stands behind what stood in the log, and nothing behind what stood in the file of arrivals.
pub record IsCutInLog (text : List ℕ) (stood stands synced : Held) : Type 0 where
  pub log : WritesFront stood.log stands.log text
  pub log_synced : Keeps stood.log synced.log
  pub arrivals : stands.arrivals ≡ stood.arrivals
  pub arrivals_synced : Keeps stood.arrivals synced.arrivals

-- All of the text stands in the log, which is synced, and a front of what came behind what stood in the file of arrivals.
pub record IsCutInArrivals (text came : List ℕ) (stood stands synced : Held) : Type 0 where
  pub log : Appends stood.log stands.log text
  pub log_synced : synced.log ≡ stands.log
  pub arrivals : WritesFront stood.arrivals stands.arrivals came
  pub arrivals_synced : Keeps stood.arrivals synced.arrivals

-- A file failed, or nothing was kept: so nothing stands in the file of arrivals before all that it rests on is synced.
abbrev pub UnsettlesFiles : (text came : List ℕ) → (stood stands synced : Held) → Type 0
UnsettlesFiles text came stood stands synced = IsCutInLog text stood stands synced ⊎ IsCutInArrivals text came stood stands synced

-- the same by the entries
abbrev pub StandsBehind : List Entry → (came : List ℕ) → (stood stands synced : Held) → Type 0
StandsBehind entries came stood stands synced = UnsettlesFiles (lines_for entries) came stood stands synced

-- Whatever was told, its entries stand in the log, and the reports that it rests on in the file of arrivals. Whole lines were read and
-- served; their entries and then their reports were synced, before a front of what they are told was written. Then more whole
-- lines were served, of which nothing was told. What was taken behind all these was not served to its end.
pub record ConvoysUntil {X : Type 0} (fits : X → Floor → Bool) (count : X → ℕ) (asker : Asker) (bound : ℕ) (before after : Input) (old : Depot X)
    (had has : Option (List ℕ)) (stood stands synced : Held) : Type 0 where
  pub read : List ℕ
  pub texts : List (List ℕ)
  pub kept : List (List ℕ)
  pub added : List Entry
  pub mid : Depot X
  pub lines : ConvoysLines fits count asker bound old mid read texts kept added
  pub told : WritesFront had has (text_of texts)
  pub settled : Held
  pub log : Appends stood.log settled.log (lines_for added)
  pub arrivals : Appends stood.arrivals settled.arrivals (lines_text kept)
  pub more : List ℕ
  pub more_texts : List (List ℕ)
  pub more_kept : List (List ℕ)
  pub later : List Entry
  pub new : Depot X
  pub more_lines : ConvoysLines fits count asker bound mid new more more_texts more_kept later
  pub behind : StandsBehind later (lines_text more_kept) settled stands synced
  pub begun : List ℕ
  pub takes : Takes before after (read ++ (more ++ begun))

-- the warehouse of the book with its spare planners, and the drive of its vehicles
abbrev pub depot : {X : Type 0} → Seen → List X → Drive → Depot X
depot book spares d = record { book = book; spares = spares; drive = d }

-- From each drive of the vehicles, here and below.
abbrev pub ConvoysFrom : {X : Type 0} → (X → Floor → Bool) → (X → ℕ) → Asker → ℕ → Round → Input → Input → Seen → List X → Crew → Seen → List X → Crew
    → (had has : Option (List ℕ)) → (stood stands synced : Held) → Type 0
ConvoysFrom fits count asker bound round before after old spares crew new rest next had has stood stands synced =
    (d : Drive) → IsManned old crew d → (e : Drive) × IsManned new next e × ConvoysOn fits count asker bound round before after (depot old spares d) (depot new rest e) had has stood stands synced

abbrev pub ConvoysUntilFrom : {X : Type 0} → (X → Floor → Bool) → (X → ℕ) → Asker → ℕ → Input → Input → Seen → List X → Crew
    → (had has : Option (List ℕ)) → (stood stands synced : Held) → Type 0
ConvoysUntilFrom fits count asker bound before after old spares crew had has stood stands synced =
    (d : Drive) → IsManned old crew d → ConvoysUntil fits count asker bound before after (depot old spares d) had has stood stands synced

-- a file is told to have failed only where one has
abbrev pub HasCause : ConvoyFault → (log_failed arrivals_failed : Bool) → Type 0
HasCause fault log_failed arrivals_failed = fault ≡ Unkept → (log_failed ≡ true) ⊎ (arrivals_failed ≡ true)
