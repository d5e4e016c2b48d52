-- what a client is served, and what a beginning of it is
use Rattle.std.specs.Prelude.{◌≡◌, ◌≤◌, ◌<◌, ◌⊎◌, ℕ, Bool, List, [], ◌++◌, length, Option}
use Rattle.std.specs.Io.KnownBytes.{Appends, IsAtEnd}
use mathlib.Core.List.{IsPrefix}
use Rattle.wh_text.specs.Lines.{lines_of, IsLine}
use Rattle.wh_lines.specs.Text.{EndsLine}
use Rattle.wh_lines.specs.Input.{Input, left, Takes}
use Rattle.wh_grid.specs.Grids.{Floor}
use Rattle.wh_event.specs.declared.entry.Entry.{Entry}
use Rattle.wh_desk.specs.Lists.{Received}
use Rattle.wh_replay.specs.Answers.{text_of}
use Rattle.wh_replay.specs.Scripts as script
use Rattle.wh_replay.specs.declared.script.ReplayFault.TheVariants as replay
use Rattle.wh_session.specs.Sessions.{IsWholeLine}
use Rattle.wh_session.specs.declared.fault.End.{End as SessionEnd}
use Rattle.wh_session.specs.declared.fault.End.TheVariants as session
use Rattle.wh_session.specs.declared.fault.SessionFault.{SessionFault}
use Rattle.wh_session.specs.declared.fault.SessionFault.TheVariants as faults
use Rattle.wh_serve.specs.declared.served.End.{End}
use Rattle.wh_serve.specs.declared.served.End.TheVariants as ended
use Rattle.wh_serve.specs.declared.served.ServeFault.{ServeFault}
use Rattle.wh_serve.specs.declared.served.ServeFault.TheVariants.{Cut, Unjournaled}
use Rattle.wh_serve.specs.declared.allowance.Allowance.{Allowance}
use Rattle.wh_serve.specs.declared.doors.Tag.{Tag}
use Rattle.wh_serve.specs.Beginnings.{behind_begin}
use Rattle.wh_serve.specs.Outcomes.{IsOutputOf}

-- What was taken and not served where the connection ended: nothing, part of a line that nobody ended, or one line, which had come
-- when the service was over.
abbrev pub IsUnserved : End → List ℕ → Type 0
IsUnserved ended.Input bytes = bytes ≡ []
IsUnserved ended.Torn bytes = IsLine bytes × (0 < length bytes)
IsUnserved ended.Over bytes = IsWholeLine bytes

-- the input has ended, but where the service was over before
abbrev pub IsReadTo : End → Input → Type 0
IsReadTo ended.Input after = IsAtEnd (left after)
IsReadTo ended.Torn after = IsAtEnd (left after)
IsReadTo ended.Over after = Unit {0}

-- Whole lines were read, those behind `begin TAG` were served, and what was written is their output, in this many lines. No more was
-- served, and no more was taken than one line or part of one.
pub record ServesAll {X : Type 0} (may : Allowance) (cells : ℕ) (fits : X → Floor → Bool) (count : X → ℕ) (grid : Floor) (text : ℕ × Entry → List ℕ) (tag : Tag) (before after : Input)
    (old : Received) (spares : List X) (new : Received) (rest : List X) (had has : Option (List ℕ)) (written : ℕ) (end : End) : Type 0 where
  pub read : List ℕ
  pub behind : List ℕ
  pub takes : Takes before after (read ++ behind)
  pub whole : EndsLine read
  pub unserved : IsUnserved end behind
  pub read_to : IsReadTo end after
  pub replies : List (List ℕ)
  pub output : IsOutputOf may cells fits count grid text (behind_begin tag (lines_of read)) old spares new rest replies
  pub appends : Appends had has (text_of replies)
  pub written_is : written ≡ length replies

-- what stands in a script behind the lines that were served: what was taken and not served, and nothing else but where the service
-- was over before
abbrev pub StandsBehind : End → List ℕ → Type 0
StandsBehind ended.Input bytes = IsUnserved ended.Input bytes
StandsBehind ended.Torn bytes = IsUnserved ended.Torn bytes
StandsBehind ended.Over bytes = (line : List ℕ) × (more : List ℕ) × IsUnserved ended.Over line × (bytes ≡ line ++ more)

-- of these bytes the whole lines behind `begin TAG` were served, all of them, or the first of them where the service was over before
pub record Outputs {X : Type 0} (may : Allowance) (cells : ℕ) (fits : X → Floor → Bool) (count : X → ℕ) (grid : Floor) (text : ℕ × Entry → List ℕ) (tag : Tag) (script : List ℕ)
    (old : Received) (spares : List X) (new : Received) (rest : List X) (had has : Option (List ℕ)) (written : ℕ) (end : End) : Type 0 where
  pub read : List ℕ
  pub behind : List ℕ
  pub parts : script ≡ read ++ behind
  pub whole : EndsLine read
  pub stands : StandsBehind end behind
  pub replies : List (List ℕ)
  pub output : IsOutputOf may cells fits count grid text (behind_begin tag (lines_of read)) old spares new rest replies
  pub appends : Appends had has (text_of replies)
  pub written_is : written ≡ length replies

-- all replies were written but perhaps the last, of which nothing was
pub record WritesButLast (had has : Option (List ℕ)) (replies : List (List ℕ)) : Type 0 where
  pub told : List (List ℕ)
  pub last : List (List ℕ)
  pub replies_are : replies ≡ told ++ last
  pub few : length last ≤ 1
  pub whole : Appends had has (text_of told)

-- what was written of the replies when there was a fault
abbrev pub WritesUntil : ServeFault → Option (List ℕ) → Option (List ℕ) → List (List ℕ) → Type 0
WritesUntil (Cut fault) had has replies = script.WritesUntil fault had has replies
WritesUntil Unjournaled had has replies = WritesButLast had has replies

-- What was taken and not served when there was a fault: part of a line, or, where the journal had failed, one line.
abbrev pub IsLost : ServeFault → List ℕ → Type 0
IsLost (Cut fault) bytes = IsLine bytes
IsLost Unjournaled bytes = (bytes ≡ []) ⊎ IsWholeLine bytes

-- That the reader failed, or was asked too often, is told only where it is so.
abbrev pub HasCause : ServeFault → Input → Input → ℕ → Type 0
HasCause (Cut fault) before after lines = script.HasCause fault before after lines
HasCause Unjournaled before after lines = Unit {0}

-- A beginning of what came was read, its lines behind `begin TAG` were served, and no line behind it: the receipts of its commands stand, also the last one, whose
-- reply may not have been written to the end. Of what came behind it no more was taken than one line or part of one.
pub record Stops {X : Type 0} (may : Allowance) (cells : ℕ) (fits : X → Floor → Bool) (count : X → ℕ) (grid : Floor) (text : ℕ × Entry → List ℕ) (tag : Tag) (fault : ServeFault) (before after : Input)
    (old : Received) (spares : List X) (new : Received) (rest : List X) (had has : Option (List ℕ)) : Type 0 where
  pub read : List ℕ
  pub behind : List ℕ
  pub takes : Takes before after (read ++ behind)
  pub lost : IsLost fault behind
  pub whole : EndsLine read
  pub replies : List (List ℕ)
  pub output : IsOutputOf may cells fits count grid text (behind_begin tag (lines_of read)) old spares new rest replies
  pub writes : WritesUntil fault had has replies
  pub cause : HasCause fault before after (length (lines_of read))

-- Of these bytes the first lines were served, and nothing else: the receipts of their commands are what was gained, and tell the replies.
pub record ServesFirst {X : Type 0} (may : Allowance) (cells : ℕ) (fits : X → Floor → Bool) (count : X → ℕ) (grid : Floor) (text : ℕ × Entry → List ℕ) (bytes : List ℕ)
    (old : Received) (spares : List X) (new : Received) (rest : List X) : Type 0 where
  pub lines : List (List ℕ)
  pub first : IsPrefix lines (lines_of bytes)
  pub replies : List (List ℕ)
  pub output : IsOutputOf may cells fits count grid text lines old spares new rest replies

-- how a connection ended, and why it did not, by how its session did
abbrev pub end_of : SessionEnd → End
end_of session.Input = ended.Input
end_of session.Torn = ended.Torn
end_of session.Over = ended.Over

abbrev pub fault_of : SessionFault → ServeFault
fault_of faults.Broken = Cut replay.Broken
fault_of faults.Endless = Cut replay.Endless
fault_of faults.Unwritten = Cut replay.Unwritten
fault_of faults.Failed = Unjournaled
fault_of faults.NoMemory = Unjournaled
fault_of faults.Unkept = Unjournaled
