-- what a script gives, and what a beginning of it gives
use Rattle.std.specs.Prelude.{◌≡◌, ◌⊎◌, ◌<◌, ◌≤◌, ◌^◌, ◌-◌, ℕ, Bool, true, List, ◌++◌, length, Option, Result, Ok, Err}
use Rattle.std.specs.Io.KnownBytes.{Appends, IsAtEnd}
use Rattle.wh_text.specs.Lines.{lines_of, IsLine}
use Rattle.wh_lines.specs.Text.{EndsLine}
use Rattle.wh_lines.specs.Input.{Input, left, Takes}
use Rattle.wh_lines.specs.declared.output.WriteFault.{WriteFault}
use Rattle.wh_grid.specs.Grids.{Floor}
use Rattle.wh_core.specs.Steps.{Run}
use Rattle.wh_book.specs.Drafts.{Seen, AllServed, HasWaysForAll}
use Rattle.wh_token.specs.Runs.{Ran, entries_of}
use Rattle.wh_event.specs.declared.event.Command.{Command}
use Rattle.wh_event.specs.declared.entry.Entry.{Entry}
use Rattle.wh_event.specs.declared.fault.LineFault.{LineFault}
use Rattle.wh_log.specs.Told.{Answered, told_text}
use Rattle.wh_log.specs.declared.form.Form.{Form}
use Rattle.wh_replay.specs.declared.asker.Asker.{Asker}
use Rattle.wh_lines.specs.declared.next.LineFault.{LineFault as NoLine}
use Rattle.wh_lines.specs.declared.next.LineFault.TheVariants.{Read, Flush}
use Rattle.wh_lines.specs.declared.lines.ReadFault.TheVariants as reads
use Rattle.wh_replay.specs.declared.script.ReplayFault.{ReplayFault}
use Rattle.wh_replay.specs.declared.script.ReplayFault.TheVariants.{Broken, Endless, Unwritten}
use Rattle.wh_replay.specs.Answers.{answered_from, asked, commands_of, answers, replies_to, text_of}
-- re-exported for the crates above
pub use Rattle.wh_lines.specs.Output.{WritesFront}

-- who asks where a script is served of which nothing is kept
abbrev pub script_asker : Form → Asker
script_asker form = record { caller = 0; form = form }

-- The commands, all of this caller, have run one after another and had these outcomes, which tell the replies, each by its
-- entry's place in the history and the clock before that too. The history has grown by the entries, and by nothing else. Fits
-- and count say what a planner returns; asker, below, which caller the entries tell, and the form in which it is told replies.
pub record Gives {X : Type 0} (fits : X → Floor → Bool) (count : X → ℕ) (caller : ℕ) (commands : List Command) (told : List (Option Answered) → List (List ℕ))
    (old : Seen) (spares : List X) (new : Seen) (rest : List X) (replies : List (List ℕ)) : Type 0 where
  pub outcomes : List (Option Entry)
  pub replies_are : replies ≡ told (answered_from (length old.history) old.state.clock outcomes)
  pub ran : Ran fits count old.site caller commands outcomes old.state spares new.state rest
  pub history : new.history ≡ old.history ++ entries_of outcomes
  pub run : Run old.site old.state (entries_of outcomes) new.state
  -- where the instance is well-formed and all were on their ways as the run began, no request is refused for lack of a path
  pub served : HasWaysForAll old.site old.opening → AllServed (entries_of outcomes)
  pub site : new.site ≡ old.site
  pub opening : new.opening ≡ old.opening

-- The output of lines: in their order nothing for a line that is skipped, `refused C1` or `refused C2` for one that is no
-- command, `refused E90` for some commands, and for the others the replies of one run.
abbrev pub IsOutputOf : {X : Type 0} → (X → Floor → Bool) → (X → ℕ) → Asker → List (List ℕ) → Seen → List X → Seen → List X → List (List ℕ) → Type 0
IsOutputOf fits count asker lines old spares new rest replies = Gives fits count asker.caller (commands_of lines) (replies_to (told_text asker.form) lines) old spares new rest replies

-- a line was written, or a front of it
abbrev pub Tells : Result ℕ WriteFault → Option (List ℕ) → Option (List ℕ) → List ℕ → Type 0
Tells (Ok count) had has line = Appends had has line × (count ≡ 1)
Tells (Err fault) had has line = WritesFront had has line

-- one line was served: what it is answered was written
pub record Serves {X : Type 0} (fits : X → Floor → Bool) (count : X → ℕ) (asker : Asker) (line : Result (Option Command) LineFault) (old : Seen) (spares : List X) (new : Seen) (rest : List X)
    (had has : Option (List ℕ)) (written : ℕ) : Type 0 where
  pub replies : List (List ℕ)
  pub gives : Gives fits count asker.caller (asked line) (answers (told_text asker.form) line) old spares new rest replies
  pub appends : Appends had has (text_of replies)
  pub written_is : written ≡ length replies

-- one line was served, and its reply was not written to the end
pub record ServesUnwritten {X : Type 0} (fits : X → Floor → Bool) (count : X → ℕ) (asker : Asker) (line : Result (Option Command) LineFault) (old : Seen) (spares : List X) (new : Seen) (rest : List X)
    (had has : Option (List ℕ)) : Type 0 where
  pub replies : List (List ℕ)
  pub gives : Gives fits count asker.caller (asked line) (answers (told_text asker.form) line) old spares new rest replies
  pub few : length replies ≤ 1
  pub writes : WritesFront had has (text_of replies)

-- All was read to the end, and what was written is the output of what was read, in this many lines.
pub record Replays {X : Type 0} (fits : X → Floor → Bool) (count : X → ℕ) (asker : Asker) (before after : Input) (old : Seen) (spares : List X) (new : Seen) (rest : List X)
    (had has : Option (List ℕ)) (written : ℕ) : Type 0 where
  pub read : List ℕ
  pub takes : Takes before after read
  pub ended : IsAtEnd (left after)
  pub replies : List (List ℕ)
  pub output : IsOutputOf fits count asker (lines_of read) old spares new rest replies
  pub appends : Appends had has (text_of replies)
  pub written_is : written ≡ length replies

-- these bytes were served, all of them
pub record Outputs {X : Type 0} (fits : X → Floor → Bool) (count : X → ℕ) (asker : Asker) (script : List ℕ) (old : Seen) (spares : List X) (new : Seen) (rest : List X)
    (had has : Option (List ℕ)) (written : ℕ) : Type 0 where
  pub replies : List (List ℕ)
  pub output : IsOutputOf fits count asker (lines_of script) old spares new rest replies
  pub appends : Appends had has (text_of replies)
  pub written_is : written ≡ length replies

-- all replies but the last were written whole, and of the last a front
pub record WritesToLast (had has : Option (List ℕ)) (replies : List (List ℕ)) : Type 0 where
  pub told : List (List ℕ)
  pub last : List (List ℕ)
  pub replies_are : replies ≡ told ++ last
  pub few : length last ≤ 1
  pub between : Option (List ℕ)
  pub whole : Appends had between (text_of told)
  pub front : WritesFront between has (text_of last)

-- after a read fault all replies are written, after a write fault all but the last, and a front of that
abbrev pub WritesUntil : ReplayFault → Option (List ℕ) → Option (List ℕ) → List (List ℕ) → Type 0
WritesUntil Unwritten had has replies = WritesToLast had has replies
WritesUntil Broken had has replies = Appends had has (text_of replies)
WritesUntil Endless had has replies = Appends had has (text_of replies)

-- What was served are whole lines. Only where the writer failed may the last one be the input's last, with no line feed.
abbrev pub IsWholeUntil : ReplayFault → Input → List ℕ → Type 0
IsWholeUntil Unwritten after read = EndsLine read ⊎ IsAtEnd (left after)
IsWholeUntil Broken after read = EndsLine read
IsWholeUntil Endless after read = EndsLine read

-- That reading failed is told only where the reader was asked again, or a fault had come before; that it was asked too often,
-- only where it was, or where more lines were served than can be counted.
abbrev pub HasCause : ReplayFault → Input → Input → ℕ → Type 0
HasCause Broken before after lines = (before.failed ≡ true) ⊎ (before.reads < after.reads)
HasCause Endless before after lines = (after.reads ≡ 100000000) ⊎ (2 ^ 64 - 1 ≤ lines)
HasCause Unwritten before after lines = Unit {0}

-- A beginning of the script was served, and no line behind it: the events of its commands stand, also the last one, whose
-- reply may not have been written to the end. What was taken behind it is part of one line, and was not served.
pub record Stops {X : Type 0} (fits : X → Floor → Bool) (count : X → ℕ) (asker : Asker) (fault : ReplayFault) (before after : Input) (old : Seen) (spares : List X) (new : Seen) (rest : List X)
    (had has : Option (List ℕ)) : Type 0 where
  pub read : List ℕ
  pub begun : List ℕ
  pub takes : Takes before after (read ++ begun)
  pub part : IsLine begun
  pub whole : IsWholeUntil fault after read
  pub replies : List (List ℕ)
  pub output : IsOutputOf fits count asker (lines_of read) old spares new rest replies
  pub writes : WritesUntil fault had has replies
  pub cause : HasCause fault before after (length (lines_of read))

-- the fault of a script whose next line did not come
abbrev pub fault_of : NoLine → ReplayFault
fault_of (Read reads.Broken) = Broken
fault_of (Read reads.Endless) = Endless
fault_of Flush = Unwritten
