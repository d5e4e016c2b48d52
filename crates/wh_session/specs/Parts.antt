-- lines that are gathered, and what waits of them
use Rattle.std.specs.Prelude.{◌≡◌, ℕ, ◌≤◌, Bool, true, List, [], ◌++◌, length, Option}
use Rattle.wh_text.specs.Lines.{lines_of}
use Rattle.wh_lines.specs.Text.{EndsLine}
use Rattle.wh_lines.specs.Input.{Input, Takes}
use Rattle.wh_session.specs.declared.machine.Halt.{Halt}
use Rattle.wh_session.specs.declared.fault.Round.{Round}
use Rattle.wh_session.specs.declared.fault.Round.TheVariants.{Over}
use Rattle.wh_session.specs.declared.fault.SessionFault.{SessionFault}
use Rattle.wh_session.specs.Machines.{Records, ServesAll}
use Rattle.wh_session.specs.Sessions.{Reads, LeavesOff, HasCause}

-- Lines were served, and what they are told and what is to be kept of them waits. Where each line is a round, it is one, and none where
-- the service is over.
pub record Gathers {S : Type 0} (serves : S → Option (List ℕ) → List ℕ → Records → S → Type 0) (last_too single : Bool) (round : Round) (before after : Input) (old new : S) (said : List ℕ) (came : Records) : Type 0 where
  pub lines : Reads serves last_too round before after old new said came
  pub few : single ≡ true → length (lines_of lines.read) ≤ 1
  pub none : single ≡ true → round ≡ Over → lines.read ≡ []

-- Whole lines were served, and then no further one was. Where each line is a round, there is no such line.
pub record GathersUntil {S : Type 0} (serves : S → Option (List ℕ) → List ℕ → Records → S → Type 0) (halts : S → Option (List ℕ) → Halt → S → Type 0) (last_too single : Bool) (fault : SessionFault) (before after : Input) (old new : S) : Type 0 where
  pub read : List ℕ
  pub whole : EndsLine read
  pub told : List ℕ
  pub kept : Records
  pub reached : S
  pub all : ServesAll serves (lines_of read) old told kept reached
  pub none : single ≡ true → read ≡ []
  pub begun : List ℕ
  pub takes : Takes before after (read ++ begun)
  pub left_off : LeavesOff halts last_too fault after begun reached new
  pub cause : HasCause fault before after (length (lines_of read))

abbrev pub GathersFrom : {X : Type 0} → {S : Type 0} → (X → S → Type 0) → (S → Option (List ℕ) → List ℕ → Records → S → Type 0) → (X → S → List ℕ) → (X → S → Records) → (last_too single : Bool) → Round → Input → Input → X → X → Type 0
GathersFrom {X} {S} stands serves says logs last_too single round before after old new =
    (s : S) → stands old s → (e : S) × stands new e × Gathers serves last_too single round before after s e (says new e) (logs new e)

abbrev pub GathersUntilFrom : {X : Type 0} → {S : Type 0} → (X → S → Type 0) → (S → Option (List ℕ) → List ℕ → Records → S → Type 0) → (S → Option (List ℕ) → Halt → S → Type 0) → (last_too single : Bool) → SessionFault → Input → Input → X → X → Type 0
GathersUntilFrom {X} {S} stands serves halts last_too single fault before after old new = (s : S) → stands old s → (e : S) × stands new e × GathersUntil serves halts last_too single fault before after s e
