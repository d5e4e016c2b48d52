-- a warehouse with its vehicles, as a machine that serves lines
use Rattle.std.specs.Prelude.{◌≡◌, ◌⊎◌, ℕ, ◌≤◌, Bool, true, false, cond, List, [], ◌++◌, length, take, drop, Option}
use Rattle.std.specs.Io.KnownBytes.{Appends}
use Rattle.wh_words.specs.Lines.{text_of as lines_text}
use Rattle.wh_lines.specs.Output.{WritesFront}
use Rattle.wh_grid.specs.Grids.{Floor}
use Rattle.wh_event.specs.declared.entry.Entry.{Entry}
use Rattle.wh_replay.specs.declared.asker.Asker.{Asker}
use Rattle.wh_book.specs.Drafts.{Seen}
use Rattle.wh_replay.specs.Answers.{text_of}
use Rattle.wh_replay.specs.Appending.{lines_for}
use Rattle.wh_session.specs.Machines.{Records, nothing}
use Rattle.wh_session.specs.declared.machine.Halt.{Halt}
use Rattle.wh_session.specs.declared.machine.Halt.TheVariants.{NoMemory, Failed}
use Rattle.wh_session.specs.declared.fault.SessionFault.{SessionFault}
use Rattle.wh_session.specs.declared.fault.SessionFault.TheVariants as session
use Rattle.wh_dispatch.specs.Crews.{Crew, IsManned}
use Rattle.wh_dispatch.specs.Lines.{Depot, heard_in, TakesLine, ServesLine}
use Rattle.wh_dispatch.specs.Keeping.{kept_in}
use Rattle.wh_dispatch.specs.declared.script.DispatchFault.{DispatchFault}
use Rattle.wh_dispatch.specs.declared.script.DispatchFault.TheVariants as faults

-- which of its callers' values the machine holds
pub record Names : Type 0 where
  pub warehouse : ℕ
  pub spares : ℕ
  pub vehicles : ℕ

-- The warehouse and the drive of its vehicles, in which form replies are told, and how far behind a vehicle may be; and whether a line
-- was left in its midst, and then what it had been told.
pub record Manning (X : Type 0) : Type 0 where
  pub depot : Depot X
  pub asker : Asker
  pub bound : ℕ
  pub names : Names
  pub halted : Bool
  pub left : List ℕ

-- The machine holds this warehouse, and its vehicles stand to its book by this drive, unless a line was left in its midst. What waits
-- to be kept are the entries from the first on; what waits to be told of the last line begins behind so many bytes.
pub record StandsSo {X : Type 0} (book : Seen) (spares : List X) (crew : Crew) (asker : Asker) (names : Names) (halted : Bool) (first begun : ℕ) (said : List ℕ) (s : Manning X) : Type 0 where
  pub book_is : book ≡ s.depot.book
  pub spares_are : spares ≡ s.depot.spares
  pub manned : s.halted ≡ false → IsManned book crew s.depot.drive
  pub asker_is : asker ≡ s.asker
  pub bound_is : crew.bound ≡ s.bound
  pub names_are : names ≡ s.names
  pub halted_is : halted ≡ s.halted
  pub first_within : first ≤ length book.history
  pub begun_within : begun ≤ length said
  pub left_is : s.halted ≡ true → drop begun said ≡ s.left

-- what waits to be told: no more once a line was left
abbrev pub said_of : (halted : Bool) → List ℕ → List ℕ
said_of halted said = cond halted [] said

-- What is to be kept, where lines are logged: the lines of these entries in the log, and these lines in the file of arrivals.
abbrev pub kept_by : (logged : Bool) → List Entry → List ℕ → Records
kept_by logged added came = cond logged (record { log = lines_for added; more = came }) nothing

-- what no line changes
pub record AreAlike {X : Type 0} (old new : Manning X) : Type 0 where
  pub asker_is : new.asker ≡ old.asker
  pub bound_is : new.bound ≡ old.bound
  pub names_are : new.names ≡ old.names

-- A line was served, and these texts are what it is told. Where lines are logged, the lines of the entries by which the history has
-- grown are to be kept in the log, and the line itself, where it is a report that moves its vehicle, in the file of arrivals.
pub record ServesManned {X : Type 0} (fits : X → Floor → Bool) (count : X → ℕ) (logged : Bool) (old : Manning X) (line : Option (List ℕ)) (told : List ℕ) (kept : Records) (new : Manning X) : Type 0 where
  pub texts : List (List ℕ)
  pub serves : ServesLine fits count old.asker old.bound (heard_in line) old.depot new.depot texts
  pub told_is : told ≡ text_of texts
  pub added : List Entry
  pub added_are : new.depot.book.history ≡ old.depot.book.history ++ added
  pub kept_is : kept ≡ kept_by logged added (lines_text (kept_in old.depot.drive line))
  pub alike : AreAlike old new
  pub goes_on : new.halted ≡ false

-- what waits of the texts of a line that was left: all, or where memory ran out for them a front
abbrev pub WaitsSo : Halt → (left texts : List ℕ) → Type 0
WaitsSo NoMemory left texts = left ≡ texts
WaitsSo Failed left texts = (count : ℕ) × (left ≡ take count texts)

-- a line was begun, these texts were found, and they wait, or a front
pub record IsTakenTo {X : Type 0} (fits : X → Floor → Bool) (count : X → ℕ) (old : Manning X) (line : Option (List ℕ)) (halt : Halt) (new : Manning X) : Type 0 where
  pub texts : List (List ℕ)
  pub takes : TakesLine fits count old.asker old.bound (heard_in line) old.depot new.depot texts
  pub left_is : WaitsSo halt new.left (text_of texts)

-- A line was not begun: where lines are logged, there was no memory to note it, or the log has no number for one more entry.
pub record IsNotBegun {X : Type 0} (logged : Bool) (old : Manning X) (halt : Halt) (new : Manning X) : Type 0 where
  pub is_logged : logged ≡ true
  pub halt_is : halt ≡ NoMemory
  pub depot_is : new.depot ≡ old.depot
  pub left_is : new.left ≡ []

-- A line was left in its midst, or before it was begun. After that none is begun.
pub record HaltsManned {X : Type 0} (fits : X → Floor → Bool) (count : X → ℕ) (logged : Bool) (old : Manning X) (line : Option (List ℕ)) (halt : Halt) (new : Manning X) : Type 0 where
  pub names_are : new.names ≡ old.names
  pub halted : new.halted ≡ true
  pub taken : old.halted ≡ false → IsTakenTo fits count old line halt new ⊎ IsNotBegun logged old halt new

-- the bytes are written, and this is the fault, or the writer failed
abbrev pub IsWrittenOr : (fault result : DispatchFault) → (had has : Option (List ℕ)) → (bytes : List ℕ) → Type 0
IsWrittenOr fault result had has bytes = ((result ≡ fault) × Appends had has bytes) ⊎ ((result ≡ faults.Unwritten) × WritesFront had has bytes)

-- Why a script was not served to its end, by what its session came to. Where memory ran out, what waits of the line is written, or the
-- writer failed.
abbrev pub EndsSo : SessionFault → DispatchFault → (had has : Option (List ℕ)) → (said : List ℕ) → Type 0
EndsSo session.NoMemory fault had has said = IsWrittenOr faults.NoMemory fault had has said
EndsSo session.Failed fault had has said = IsWrittenOr faults.NoRoom fault had has said
EndsSo session.Broken fault had has said = (fault ≡ faults.Broken) × (has ≡ had)
EndsSo session.Endless fault had has said = (fault ≡ faults.Endless) × (has ≡ had)
EndsSo session.Unwritten fault had has said = (fault ≡ faults.Unwritten) × (has ≡ had)
EndsSo session.Unkept fault had has said = (fault ≡ faults.Unwritten) × (has ≡ had)

-- why a line was left, by what serving it came to
abbrev pub halt_by : DispatchFault → Halt
halt_by faults.Broken = Failed
halt_by faults.Endless = Failed
halt_by faults.Unwritten = Failed
halt_by faults.NoMemory = NoMemory
halt_by faults.NoRoom = Failed
