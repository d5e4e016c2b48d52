-- what a session read, served, kept and told
use Rattle.std.specs.Prelude.{◌≡◌, ◌≢◌, ◌⊎◌, ℕ, ◌+◌, ◌-◌, ◌^◌, ◌<◌, ◌≤◌, Bool, true, false, List, [], ◌∷◌, ◌++◌, length, Option}
use Rattle.std.specs.Io.KnownBytes.{Appends, Keeps, IsAtEnd}
use Rattle.wh_text.specs.Lines.{lines_of, IsLine}
use Rattle.wh_lines.specs.Text.{EndsLine, short_line}
use Rattle.wh_lines.specs.Input.{Input, left, Takes}
use Rattle.wh_lines.specs.Output.{WritesFront}
use Rattle.wh_lines.specs.declared.next.LineFault.{LineFault}
use Rattle.wh_lines.specs.declared.next.LineFault.TheVariants.{Read, Flush}
use Rattle.wh_lines.specs.declared.lines.ReadFault.TheVariants as reads
use Rattle.wh_session.specs.declared.machine.Halt.{Halt}
use Rattle.wh_session.specs.declared.machine.Halt.TheVariants as kinds
use Rattle.wh_session.specs.declared.fault.End.{End}
use Rattle.wh_session.specs.declared.fault.End.TheVariants as ends
use Rattle.wh_session.specs.declared.fault.Round.{Round}
use Rattle.wh_session.specs.declared.fault.Round.TheVariants.{More, Served, Ended, Torn, Over}
use Rattle.wh_session.specs.declared.fault.SessionFault.{SessionFault}
use Rattle.wh_session.specs.declared.fault.SessionFault.TheVariants.{Broken, Endless, Unwritten, Unkept, NoMemory, Failed}
use Rattle.wh_session.specs.Machines.{Records, ServesAll}

-- the fault of a session whose next line did not come
abbrev pub fault_of : LineFault → SessionFault
fault_of (Read reads.Broken) = Broken
fault_of (Read reads.Endless) = Endless
fault_of Flush = Unwritten

-- and of one whose machine failed
abbrev pub halt_fault : Halt → SessionFault
halt_fault kinds.NoMemory = NoMemory
halt_fault kinds.Failed = Failed

abbrev pub round_of : End → Round
round_of ends.Input = Ended
round_of ends.Torn = Torn
round_of ends.Over = Over

-- That reading failed is told only where the reader was asked, or a fault had come before; that it was asked too often, only where
-- it was, or where more lines were served than can be counted.
abbrev pub HasCause : SessionFault → Input → Input → ℕ → Type 0
HasCause Broken before after lines = (before.failed ≡ true) ⊎ (before.reads < after.reads)
HasCause Endless before after lines = (after.reads ≡ 100000000) ⊎ (2 ^ 64 - 1 ≤ lines)
HasCause Unwritten before after lines = Unit {0}
HasCause Unkept before after lines = Unit {0}
HasCause NoMemory before after lines = Unit {0}
HasCause Failed before after lines = Unit {0}

-- the bytes are whole lines, but at the end, where what follows the last line feed is served too
abbrev pub IsWhole : Bool → Round → List ℕ → Type 0
IsWhole true Ended read = Unit {0}
IsWhole false Ended read = EndsLine read
IsWhole last_too More read = EndsLine read
IsWhole last_too Served read = EndsLine read
IsWhole last_too Torn read = EndsLine read
IsWhole last_too Over read = EndsLine read

-- a line with the line feed behind it
abbrev pub IsWholeLine : List ℕ → Type 0
IsWholeLine bytes = (line : List ℕ) × IsLine line × (bytes ≡ line ++ 10 ∷ [])

-- What ended a round, and what was taken and not served. Lines were served, and more may wait; or no whole line waits. Or all was
-- read: nothing follows the last line feed, or it is served too; or it is no line. Or the service is over: a line that had come is
-- not served.
abbrev pub EndsBy : Bool → Round → Input → List ℕ → List ℕ → Type 0
EndsBy last_too More after read begun = (begun ≡ []) × (1 ≤ length (lines_of read))
EndsBy last_too Served after read begun = (begun ≡ []) × (1 ≤ length (lines_of read)) × IsLine after.waiting
EndsBy last_too Ended after read begun = (begun ≡ []) × IsAtEnd (left after)
EndsBy last_too Torn after read begun = IsLine begun × (0 < length begun) × IsAtEnd (left after) × (last_too ≡ false)
EndsBy last_too Over after read begun = IsWholeLine begun

-- Lines were read and served, and what ended that.
pub record Reads {S : Type 0} (serves : S → Option (List ℕ) → List ℕ → Records → S → Type 0) (last_too : Bool) (round : Round) (before after : Input) (old new : S)
    (told : List ℕ) (kept : Records) : Type 0 where
  pub read : List ℕ
  pub begun : List ℕ
  pub takes : Takes before after (read ++ begun)
  pub whole : IsWhole last_too round read
  pub ends : EndsBy last_too round after read begun
  pub all : ServesAll serves (lines_of read) old told kept new

-- THE THEOREM, where no fault came. Lines were read and served, what is to be kept of them stands in the keeper and survives a kill,
-- and what they are told is written. Where each line is a round, they are no more than can be counted.
pub record Serves {S : Type 0} (serves : S → Option (List ℕ) → List ℕ → Records → S → Type 0) {H : Type 0} (keeps : H → Records → H → Type 0) (last_too single : Bool) (most : ℕ) (round : Round)
    (before after : Input) (old new : S) (had has : Option (List ℕ)) (stood stands : H) : Type 0 where
  pub told : List ℕ
  pub kept : Records
  pub lines : Reads serves last_too round before after old new told kept
  pub stood_on : keeps stood kept stands
  pub wrote : Appends had has told
  pub few : single ≡ true → length (lines_of lines.read) ≤ most

-- The line that was taken behind those that were served was begun, and the machine failed. It is a whole one or, where that is
-- served too, what follows the last line feed of the input.
pub record HaltsAt {S : Type 0} (halts : S → Option (List ℕ) → Halt → S → Type 0) (last_too : Bool) (halt : Halt) (after : Input) (begun : List ℕ) (old new : S) : Type 0 where
  pub raw : List ℕ
  pub plain : IsLine raw
  pub begun_is : ((last_too ≡ true) × (begun ≡ raw) × (0 < length raw) × IsAtEnd (left after)) ⊎ (begun ≡ raw ++ 10 ∷ [])
  pub halted : halts old (short_line raw) halt new

-- what was taken behind the lines that were served: a line that was begun, or part of one, which was not
abbrev pub LeavesOff : {S : Type 0} → (S → Option (List ℕ) → Halt → S → Type 0) → (last_too : Bool) → SessionFault → Input → List ℕ → S → S → Type 0
LeavesOff halts last_too NoMemory after begun old new = HaltsAt halts last_too kinds.NoMemory after begun old new
LeavesOff halts last_too Failed after begun old new = HaltsAt halts last_too kinds.Failed after begun old new
LeavesOff halts last_too Broken after begun old new = IsLine begun × (new ≡ old)
LeavesOff halts last_too Endless after begun old new = IsLine begun × (new ≡ old)
LeavesOff halts last_too Unwritten after begun old new = IsLine begun × (new ≡ old)
LeavesOff halts last_too Unkept after begun old new = IsLine begun × (new ≡ old)

-- nothing of the last round was kept or told
pub record NothingKept {H : Type 0} (fault : SessionFault) (between has : Option (List ℕ)) (settled stands : H) : Type 0 where
  pub other : fault ≢ Unkept
  pub untold : Keeps between has
  pub as_it_was : stands ≡ settled

-- the keeper failed at the last round, and nothing of it was told
pub record NotAllKept {H : Type 0} (leaves : H → Records → H → Type 0) (fault : SessionFault) (kept : Records) (between has : Option (List ℕ)) (settled stands : H) : Type 0 where
  pub is : fault ≡ Unkept
  pub untold : Keeps between has
  pub front : leaves settled kept stands

-- all that is to be kept of the last round is kept, and a front of what it is told was written
pub record NotAllTold {H : Type 0} (keeps : H → Records → H → Type 0) (fault : SessionFault) (told : List ℕ) (kept : Records) (between has : Option (List ℕ)) (settled stands : H) : Type 0 where
  pub is : fault ≡ Unwritten
  pub all_kept : keeps settled kept stands
  pub front : WritesFront between has told

-- THE THEOREM, where a fault came. Rounds were served, kept and told whole. Then the lines of one more round were served, of which
-- nothing was kept or told; or not all was kept, and nothing was told; or all is kept, and a front was told. What was taken behind it
-- is part of one line, or a line at which the machine failed, or, where a round may be several lines, one that came when the service
-- was over. Where each line is a round, the last one is at most one line, and none where reading or the machine failed. The cause is a
-- true one.
pub record Stops {S : Type 0} (serves : S → Option (List ℕ) → List ℕ → Records → S → Type 0) (halts : S → Option (List ℕ) → Halt → S → Type 0) {H : Type 0} (keeps leaves : H → Records → H → Type 0)
    (last_too single may_end : Bool) (fault : SessionFault) (before after : Input) (old new : S) (had has : Option (List ℕ)) (stood stands : H) : Type 0 where
  pub read : List ℕ
  pub whole : EndsLine read
  pub told : List ℕ
  pub kept : Records
  pub mid : S
  pub all : ServesAll serves (lines_of read) old told kept mid
  pub between : Option (List ℕ)
  pub wrote : Appends had between told
  pub settled : H
  pub stood_on : keeps stood kept settled
  pub last : List ℕ
  pub last_whole : EndsLine last ⊎ ((last_too ≡ true) × IsAtEnd (left after))
  pub last_told : List ℕ
  pub last_kept : Records
  pub reached : S
  pub last_all : ServesAll serves (lines_of last) mid last_told last_kept reached
  pub few : single ≡ true → length (lines_of last) ≤ 1
  pub none : single ≡ true → fault ≢ Unkept → fault ≢ Unwritten → last ≡ []
  pub left_so : NothingKept fault between has settled stands ⊎ NotAllKept leaves fault last_kept between has settled stands ⊎ NotAllTold keeps fault last_told last_kept between has settled stands
  pub begun : List ℕ
  pub takes : Takes before after (read ++ (last ++ begun))
  pub left_off : LeavesOff halts last_too fault after begun reached new ⊎ ((may_end ≡ true) × (single ≡ false) × IsWholeLine begun × (new ≡ reached))
  pub cause : HasCause fault before after (length (lines_of read) + length (lines_of last))

-- From each state that the machine represented, to one that it represents.
abbrev pub ServesFrom : {X : Type 0} → {S : Type 0} → (X → S → Type 0) → (S → Option (List ℕ) → List ℕ → Records → S → Type 0) → {H : Type 0} → (H → Records → H → Type 0) → (last_too single : Bool) → (most : ℕ) → Round
    → Input → Input → X → X → (had has : Option (List ℕ)) → (stood holds : H) → Type 0
ServesFrom {X} {S} stands serves {H} keeps last_too single most round before after old new had has stood holds =
    (s : S) → stands old s → (e : S) × stands new e × Serves serves keeps last_too single most round before after s e had has stood holds

abbrev pub StopsFrom : {X : Type 0} → {S : Type 0} → (X → S → Type 0) → (S → Option (List ℕ) → List ℕ → Records → S → Type 0) → (S → Option (List ℕ) → Halt → S → Type 0) → {H : Type 0} → (keeps leaves : H → Records → H → Type 0)
    → (last_too single may_end : Bool) → SessionFault → Input → Input → X → X → (had has : Option (List ℕ)) → (stood holds : H) → Type 0
StopsFrom {X} {S} stands serves halts {H} keeps leaves last_too single may_end fault before after old new had has stood holds =
    (s : S) → stands old s → (e : S) × stands new e × Stops serves halts keeps leaves last_too single may_end fault before after s e had has stood holds
