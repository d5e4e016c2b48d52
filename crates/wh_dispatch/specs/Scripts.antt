-- what a script with vehicles gives, and what a beginning of it gives
use Rattle.std.specs.Prelude.{◌≡◌, ◌⊎◌, ℕ, Bool, List, [], ◌∷◌, ◌++◌, length, Option}
use Rattle.std.specs.Io.KnownBytes.{Appends, IsAtEnd}
use Rattle.wh_text.specs.Lines.{lines_of, IsLine}
use Rattle.wh_lines.specs.Input.{Input, left, Takes}
use Rattle.wh_lines.specs.Output.{WritesFront}
use Rattle.wh_grid.specs.Grids.{Floor}
use Rattle.wh_replay.specs.declared.asker.Asker.{Asker}
use Rattle.wh_book.specs.Drafts.{Seen}
use Rattle.wh_replay.specs.Answers.{reply_line, text_of}
use Rattle.wh_replay.specs.Scripts.{IsWholeUntil, HasCause}
use Rattle.wh_replay.specs.declared.script.ReplayFault.{ReplayFault}
use Rattle.wh_replay.specs.declared.script.ReplayFault.TheVariants as replay
use Rattle.wh_drive.specs.Drives.{Drive}
use Rattle.wh_drive.specs.Runs.{Event, Run}
use Rattle.wh_order.specs.Settling.{IsQuiet, OnlySettle, told_by}
use Rattle.wh_vehicles.specs.Notices.{notice_text}
use Rattle.wh_vehicles.specs.Driving.{AnswersReport}
use Rattle.wh_vehicles.specs.Visits.{Visit}
use Rattle.wh_vehicles.specs.declared.report.Report.{Report}
use Rattle.wh_vehicles.specs.declared.notice.Notice.{Notice}
use Rattle.wh_dispatch.specs.Crews.{Crew, IsManned}
use Rattle.wh_dispatch.specs.Visiting.{due_visits, left_after}
use Rattle.wh_dispatch.specs.Lines.{Depot, Heard, heard, TakesLine, ServesLine, ServesAll, go_lines, visit_lines}
use Rattle.wh_dispatch.specs.declared.visits.Pending.{Pending}
use Rattle.wh_dispatch.specs.declared.script.DispatchFault.{DispatchFault}
use Rattle.wh_dispatch.specs.declared.script.DispatchFault.TheVariants.{Broken, Endless, Unwritten, NoMemory, NoRoom}

-- A line that was begun is left for the writer, or for lack of memory for its text, and then a front is written; or for lack of memory
-- for what vehicles are to do, and then all that was found. It is not left for the reader.
abbrev pub WritesUntil : DispatchFault → Option (List ℕ) → Option (List ℕ) → List ℕ → Type 0
WritesUntil Unwritten had has bytes = WritesFront had has bytes
WritesUntil NoMemory had has bytes = Appends had has bytes
WritesUntil NoRoom had has bytes = WritesFront had has bytes
WritesUntil Broken had has bytes = ⊥
WritesUntil Endless had has bytes = ⊥

-- Vehicles go on as far as they may. The visits that they have made by then and that were not told, and then their steps,
-- stand behind what was written; of the tasks those are kept of which not all visits were told.
pub record TellsAll (book : Seen) (pending left : List Pending) (d e : Drive) (had has : Option (List ℕ)) : Type 0 where
  pub events : List Event
  pub only : OnlySettle d events
  pub run : Run d events e
  pub quiet : IsQuiet e
  pub left_are : left ≡ left_after book.opening.clock book.state.tasks e.vehicles pending
  pub appends : Appends had has (text_of (visit_lines (due_visits book.opening.clock book.state.tasks e.vehicles pending) ++ go_lines (told_by d events)))

-- vehicles go on, and what is told of it was not written to the end, or not found for lack of memory
pub record TellsSome (fault : DispatchFault) (book : Seen) (pending : List Pending) (d e : Drive) (had has : Option (List ℕ)) : Type 0 where
  pub events : List Event
  pub only : OnlySettle d events
  pub run : Run d events e
  pub visits : List Visit
  pub visits_are : (visits ≡ []) ⊎ (visits ≡ due_visits book.opening.clock book.state.tasks e.vehicles pending)
  pub writes : WritesUntil fault had has (text_of (visit_lines visits ++ go_lines (told_by d events)))

-- one line was served, and what it is told stands behind what was written
pub record Serves {X : Type 0} (fits : X → Floor → Bool) (count : X → ℕ) (asker : Asker) (bound : ℕ) (line : Heard) (old new : Depot X)
    (had has : Option (List ℕ)) : Type 0 where
  pub texts : List (List ℕ)
  pub serves : ServesLine fits count asker bound line old new texts
  pub appends : Appends had has (text_of texts)

-- one line was begun
pub record Begins {X : Type 0} (fits : X → Floor → Bool) (count : X → ℕ) (asker : Asker) (bound : ℕ) (fault : DispatchFault) (line : Heard) (old new : Depot X)
    (had has : Option (List ℕ)) : Type 0 where
  pub texts : List (List ℕ)
  pub takes : TakesLine fits count asker bound line old new texts
  pub writes : WritesUntil fault had has (text_of texts)

-- All was read to the end, and what was written is what the lines are told.
pub record Dispatches {X : Type 0} (fits : X → Floor → Bool) (count : X → ℕ) (asker : Asker) (bound : ℕ) (before after : Input) (old new : Depot X)
    (had has : Option (List ℕ)) : Type 0 where
  pub read : List ℕ
  pub takes : Takes before after read
  pub ended : IsAtEnd (left after)
  pub texts : List (List ℕ)
  pub serves : ServesAll fits count asker bound (lines_of read) old new texts
  pub appends : Appends had has (text_of texts)

-- all lines were served, and what they are told is written, all of it
pub record ServesThrough {X : Type 0} (fits : X → Floor → Bool) (count : X → ℕ) (asker : Asker) (bound : ℕ) (lines : List (List ℕ)) (old new : Depot X)
    (had has : Option (List ℕ)) : Type 0 where
  pub texts : List (List ℕ)
  pub serves : ServesAll fits count asker bound lines old new texts
  pub appends : Appends had has (text_of texts)

-- All lines but the last were served, and what they are told is written, all of it. The last was begun, and left before its
-- vehicles had all gone on, or before all that it is told was written.
pub record LeavesOff {X : Type 0} (fits : X → Floor → Bool) (count : X → ℕ) (asker : Asker) (bound : ℕ) (fault : DispatchFault) (lines : List (List ℕ)) (old new : Depot X)
    (had has : Option (List ℕ)) : Type 0 where
  pub before : List (List ℕ)
  pub line : List ℕ
  pub lines_are : lines ≡ before ++ line ∷ []
  pub mid : Depot X
  pub between : Option (List ℕ)
  pub through : ServesThrough fits count asker bound before old mid had between
  pub texts : List (List ℕ)
  pub takes : TakesLine fits count asker bound (heard line) mid new texts
  pub writes : WritesUntil fault between has (text_of texts)

-- A reader's fault comes between lines, lack of memory within one, a writer's fault in either place.
abbrev pub ServesUntil : {X : Type 0} → (X → Floor → Bool) → (X → ℕ) → Asker → ℕ → DispatchFault → List (List ℕ) → Depot X → Depot X → Option (List ℕ) → Option (List ℕ) → Type 0
ServesUntil fits count asker bound Broken lines old new had has = ServesThrough fits count asker bound lines old new had has
ServesUntil fits count asker bound Endless lines old new had has = ServesThrough fits count asker bound lines old new had has
ServesUntil fits count asker bound NoMemory lines old new had has = LeavesOff fits count asker bound NoMemory lines old new had has
ServesUntil fits count asker bound NoRoom lines old new had has = LeavesOff fits count asker bound NoRoom lines old new had has
ServesUntil fits count asker bound Unwritten lines old new had has =
    ServesThrough fits count asker bound lines old new had has ⊎ LeavesOff fits count asker bound Unwritten lines old new had has

-- What a fault says of the script's bytes and of its cause is what it says without vehicles; for lack of memory, too, a line is
-- left that may be the input's last.
abbrev pub plain_fault : DispatchFault → ReplayFault
plain_fault Broken = replay.Broken
plain_fault Endless = replay.Endless
plain_fault Unwritten = replay.Unwritten
plain_fault NoMemory = replay.Unwritten
plain_fault NoRoom = replay.Unwritten

-- A beginning of the script was served, whole lines, and no line behind it. What was taken behind it is part of one line, and
-- was not served.
pub record Stops {X : Type 0} (fits : X → Floor → Bool) (count : X → ℕ) (asker : Asker) (bound : ℕ) (fault : DispatchFault) (before after : Input) (old new : Depot X)
    (had has : Option (List ℕ)) : Type 0 where
  pub read : List ℕ
  pub begun : List ℕ
  pub takes : Takes before after (read ++ begun)
  pub part : IsLine begun
  pub whole : IsWholeUntil (plain_fault fault) after read
  pub serves : ServesUntil fits count asker bound fault (lines_of read) old new had has
  pub cause : HasCause (plain_fault fault) before after (length (lines_of read))

-- From each drive of the vehicles a line was served.
abbrev pub ServesFrom : {X : Type 0} → (X → Floor → Bool) → (X → ℕ) → Asker → ℕ → Heard → Seen → List X → Crew → Seen → List X → Crew → Option (List ℕ) → Option (List ℕ) → Type 0
ServesFrom fits count asker bound line old spares crew new rest next had has =
    (d : Drive) → IsManned old crew d → (e : Drive) × IsManned new next e
    × Serves fits count asker bound line (record { book = old; spares = spares; drive = d }) (record { book = new; spares = rest; drive = e }) had has

-- From each drive of the vehicles a line was begun.
abbrev pub BeginsFrom : {X : Type 0} → (X → Floor → Bool) → (X → ℕ) → Asker → ℕ → Heard → DispatchFault → Seen → List X → Crew → Seen → List X → Option (List ℕ) → Option (List ℕ) → Type 0
BeginsFrom fits count asker bound line fault old spares crew new rest had has =
    (d : Drive) → IsManned old crew d → (e : Drive)
    × Begins fits count asker bound fault line (record { book = old; spares = spares; drive = d }) (record { book = new; spares = rest; drive = e }) had has

-- From each drive of the vehicles the whole script was served.
abbrev pub DispatchesFrom : {X : Type 0} → (X → Floor → Bool) → (X → ℕ) → Asker → ℕ → Input → Input → Seen → List X → Crew → Seen → List X → Crew → Option (List ℕ) → Option (List ℕ) → Type 0
DispatchesFrom fits count asker bound before after old spares crew new rest next had has =
    (d : Drive) → IsManned old crew d → (e : Drive) × IsManned new next e
    × Dispatches fits count asker bound before after (record { book = old; spares = spares; drive = d }) (record { book = new; spares = rest; drive = e }) had has

-- From each drive of the vehicles a beginning of the script was served.
abbrev pub StopsFrom : {X : Type 0} → (X → Floor → Bool) → (X → ℕ) → Asker → ℕ → DispatchFault → Input → Input → Seen → List X → Crew → Seen → List X → Option (List ℕ) → Option (List ℕ) → Type 0
StopsFrom fits count asker bound fault before after old spares crew new rest had has =
    (d : Drive) → IsManned old crew d → (e : Drive)
    × Stops fits count asker bound fault before after (record { book = old; spares = spares; drive = d }) (record { book = new; spares = rest; drive = e }) had has

-- the vehicles have a drive in which they stand so
abbrev pub SomeManned : Seen → Crew → Type 0
SomeManned book crew = (d : Drive) × IsManned book crew d

-- A report is answered, and vehicles go on as far as they may.
pub record Hears (report : Report) (book : Seen) (pending left : List Pending) (d e : Drive) (had has : Option (List ℕ)) : Type 0 where
  pub notice : Notice
  pub mid : Drive
  pub answers : AnswersReport d report notice mid
  pub between : Option (List ℕ)
  pub wrote : Appends had between (reply_line (notice_text notice))
  pub tells : TellsAll book pending left mid e between has

-- a front of the answer to a report was written, or it and some of what vehicles are told then
abbrev pub AnswersSome : DispatchFault → List ℕ → Seen → List Pending → Drive → Drive → Option (List ℕ) → Option (List ℕ) → Type 0
AnswersSome fault answer book pending mid e had has =
    ((fault ≡ Unwritten) × (e ≡ mid) × WritesFront had has (reply_line answer))
    ⊎ ((between : Option (List ℕ)) × Appends had between (reply_line answer) × TellsSome fault book pending mid e between has)

-- the same, not written to the end, or not to the end for lack of memory
pub record HearsSome (fault : DispatchFault) (report : Report) (book : Seen) (pending : List Pending) (d e : Drive) (had has : Option (List ℕ)) : Type 0 where
  pub notice : Notice
  pub mid : Drive
  pub answers : AnswersReport d report notice mid
  pub some : AnswersSome fault (notice_text notice) book pending mid e had has
