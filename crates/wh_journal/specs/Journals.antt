-- what is served, what stands in the journal, and what is told
use Rattle.std.specs.Prelude.{◌≡◌, ℕ, ◌+◌, ◌≤◌, Bool, List, ◌++◌, length, Option}
use Rattle.std.specs.Io.KnownBytes.{Appends, Keeps, IsAtEnd}
use Rattle.wh_text.specs.Lines.{lines_of, IsLine}
use Rattle.wh_lines.specs.Text.{EndsLine}
use Rattle.wh_lines.specs.Input.{Input, left, Takes}
use Rattle.wh_grid.specs.Grids.{Floor}
use Rattle.wh_token.specs.Drafts.{Seen}
use Rattle.wh_event.specs.declared.entry.Entry.{Entry}
use Rattle.wh_log.specs.declared.form.Form.{Form}
use Rattle.wh_replay.specs.declared.asker.Asker.{Asker}
use Rattle.wh_replay.specs.Answers.{text_of}
use Rattle.wh_replay.specs.Scripts.{IsOutputOf, WritesFront}
use Rattle.wh_journal.specs.Faults.{HasCause}
use Rattle.wh_journal.specs.declared.fault.JournaledFault.{JournaledFault}
use Rattle.wh_journal.specs.declared.rounds.Round.{Round}
use Rattle.wh_journal.specs.declared.rounds.Round.TheVariants.{Served, Ended}
-- re-exported for the crates above
pub use Rattle.wh_replay.specs.Appending.{lines_for}

-- who asks where a script is served over a log: a caller that no client has
abbrev pub log_asker : Form → Asker
log_asker form = record { caller = 62; form = form }

-- These bytes are whole lines, and were served: these are the replies to them, and by these entries, theirs, the history
-- has grown. Fits and count say what a planner returns; asker, here and below, who asks.
pub record ServesLines {X : Type 0} (fits : X → Floor → Bool) (count : X → ℕ) (asker : Asker) (old : Seen) (spares : List X) (new : Seen) (rest : List X)
    (read : List ℕ) (replies : List (List ℕ)) (added : List Entry) : Type 0 where
  pub whole : EndsLine read
  pub output : IsOutputOf fits count asker (lines_of read) old spares new rest replies
  pub added_are : new.history ≡ old.history ++ added

-- A round: at least one whole line was taken and served, the lines of the entries stand in the journal, which is synced, all
-- replies are written, and no whole line waits.
pub record ServesRound {X : Type 0} (fits : X → Floor → Bool) (count : X → ℕ) (asker : Asker) (before after : Input) (old : Seen) (spares : List X) (new : Seen) (rest : List X)
    (had has journal synced holds : Option (List ℕ)) : Type 0 where
  pub read : List ℕ
  pub takes : Takes before after read
  pub some : 1 ≤ length (lines_of read)
  pub none_waits : IsLine after.waiting
  pub replies : List (List ℕ)
  pub added : List Entry
  pub serves : ServesLines fits count asker old spares new rest read replies added
  pub stands : Appends journal holds (lines_for added)
  pub synced_is : synced ≡ holds
  pub told : Appends had has (text_of replies)

-- All was read to the end. The whole lines were served, the lines of the entries stand in the journal, which is synced, and
-- all replies are written. What follows the last line feed is no line.
pub record ReplaysJournaled {X : Type 0} (fits : X → Floor → Bool) (count : X → ℕ) (asker : Asker) (before after : Input) (old : Seen) (spares : List X) (new : Seen) (rest : List X)
    (had has journal synced holds : Option (List ℕ)) : Type 0 where
  pub read : List ℕ
  pub begun : List ℕ
  pub takes : Takes before after (read ++ begun)
  pub plain : IsLine begun
  pub ended : IsAtEnd (left after)
  pub replies : List (List ℕ)
  pub added : List Entry
  pub serves : ServesLines fits count asker old spares new rest read replies added
  pub stands : Appends journal holds (lines_for added)
  pub synced_is : synced ≡ holds
  pub told : Appends had has (text_of replies)

abbrev pub Rounds : {X : Type 0} → (X → Floor → Bool) → (X → ℕ) → Asker → Input → Input → Seen → List X → Seen → List X → (had has journal synced holds : Option (List ℕ)) → Round → Type 0
Rounds fits count asker before after old spares new rest had has journal synced holds Served = ServesRound fits count asker before after old spares new rest had has journal synced holds
Rounds fits count asker before after old spares new rest had has journal synced holds Ended = ReplaysJournaled fits count asker before after old spares new rest had has journal synced holds

-- Whatever was told, its entries stand in the journal. Whole lines were read and served; their entries were appended to the
-- journal, and were synced, before a front of the replies was written. Then more whole lines were served, of which nothing
-- was told: of their entries' lines a front may stand behind what was synced. What was taken behind all these was not served.
pub record Journaled {X : Type 0} (fits : X → Floor → Bool) (count : X → ℕ) (asker : Asker) (fault : JournaledFault) (before after : Input) (old : Seen) (spares : List X) (new : Seen) (rest : List X)
    (had has journal : Option (List ℕ)) (failed : Bool) (synced holds : Option (List ℕ)) : Type 0 where
  pub read : List ℕ
  pub replies : List (List ℕ)
  pub added : List Entry
  pub mid : Seen
  pub held : List X
  pub serves : ServesLines fits count asker old spares mid held read replies added
  pub told : WritesFront had has (text_of replies)
  pub kept : Option (List ℕ)
  pub stands : Appends journal kept (lines_for added)
  pub synced_is : Keeps kept synced
  pub more : List ℕ
  pub more_replies : List (List ℕ)
  pub later : List Entry
  pub serves_more : ServesLines fits count asker mid held new rest more more_replies later
  pub behind : WritesFront kept holds (lines_for later)
  pub begun : List ℕ
  pub takes : Takes before after (read ++ (more ++ begun))
  pub cause : HasCause fault after failed (length (lines_of read) + length (lines_of more))
