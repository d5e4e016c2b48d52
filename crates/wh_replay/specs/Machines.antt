-- a script's warehouse as a machine: what lines were answered waits, and is kept and told from the history
use Rattle.std.specs.Prelude.{◌≡◌, ℕ, ◌+◌, ◌-◌, ◌^◌, ◌≤◌, Bool, List, length, drop, Option}
use Rattle.wh_grid.specs.Grids.{Floor}
use Rattle.wh_book.specs.Drafts.{Seen}
use Rattle.wh_log.specs.Told.{Answered, told_text}
use Rattle.wh_replay.specs.declared.asker.Asker.{Asker}
use Rattle.wh_token.specs.Runs.{entries_of}
use Rattle.wh_session.specs.Machines.{Records}
use Rattle.wh_session.specs.declared.fault.SessionFault.{SessionFault}
use Rattle.wh_session.specs.declared.fault.SessionFault.TheVariants as faults
use Rattle.wh_replay.specs.declared.script.ReplayFault.{ReplayFault}
use Rattle.wh_replay.specs.declared.script.ReplayFault.TheVariants.{Broken, Endless, Unwritten}
use Rattle.wh_replay.specs.declared.answering.Answer.{Answer}
use Rattle.wh_replay.specs.Answers.{asked, answers, said, text_of, clock_behind}
use Rattle.wh_replay.specs.Answering.{told_by_answers, entry_count}
use Rattle.wh_replay.specs.Scripts.{Gives}
use Rattle.wh_replay.specs.Appending.{lines_for, logged}

-- what waits, told from the history
abbrev pub told_of : (Answered → List ℕ) → ℕ → ℕ → Seen → List Answer → List ℕ
told_of text first clock book waiting = text_of (told_by_answers text first clock waiting (drop first book.history))

-- what waits to be kept: the lines of the entries from the first on
abbrev pub kept_of : ℕ → Seen → Records
kept_of first book = logged (lines_for (drop first book.history))

-- The entries of the history from the first on are those of what waits, and the clock before them leads to the book's.
pub record Left (first clock : ℕ) (book : Seen) (waiting : List Answer) : Type 0 where
  pub within : first ≤ length book.history
  pub counted : entry_count waiting ≡ length (drop first book.history)
  pub clock_is : clock_behind clock (drop first book.history) ≡ book.state.clock

-- The warehouse and its spare planners, with the names of the references to them; who asks, the most entries of the history, and
-- how many replies there were.
pub record Scripted (X : Type 0) : Type 0 where
  pub seat : ℕ
  pub room : ℕ
  pub book : Seen
  pub spares : List X
  pub asker : Asker
  pub most : ℕ
  pub replies : ℕ

pub record StandsSo {X : Type 0} (seat room : ℕ) (book : Seen) (spares : List X) (asker : Asker) (most replies first clock : ℕ) (waiting : List Answer) (s : Scripted X) : Type 0 where
  pub seat_is : seat ≡ s.seat
  pub room_is : room ≡ s.room
  pub book_is : book ≡ s.book
  pub spares_are : spares ≡ s.spares
  pub asker_is : asker ≡ s.asker
  pub most_is : most ≡ s.most
  pub replies_are : replies ≡ s.replies
  pub left : Left first clock book waiting

-- One line was served as in a script, and the line of the entry that it added, if it did, is to be kept. The replies are counted as far
-- as a number of 64 bits goes.
pub record ServesScript {X : Type 0} (fits : X → Floor → Bool) (count : X → ℕ) (s : Scripted X) (line : Option (List ℕ)) (told : List ℕ) (kept : Records) (e : Scripted X) : Type 0 where
  pub replies : List (List ℕ)
  pub gives : Gives fits count s.asker.caller (asked (said line)) (answers (told_text s.asker.form) (said line)) s.book s.spares e.book e.spares replies
  pub told_is : told ≡ text_of replies
  pub kept_is : kept ≡ logged (lines_for (entries_of gives.outcomes))
  pub few : length s.book.history ≤ s.most → length e.book.history ≤ s.most
  pub counted : s.replies + length replies ≤ 2 ^ 64 - 1 → e.replies ≡ s.replies + length replies
  pub seat_is : e.seat ≡ s.seat
  pub room_is : e.room ≡ s.room
  pub asker_is : e.asker ≡ s.asker
  pub most_is : e.most ≡ s.most

-- The fault of a script whose session ended so, where nothing is kept. Memory ends no script.
abbrev pub session_fault : SessionFault → ReplayFault
session_fault faults.Broken = Broken
session_fault faults.Endless = Endless
session_fault faults.Unwritten = Unwritten
session_fault faults.Unkept = Unwritten
session_fault faults.NoMemory = Unwritten
session_fault faults.Failed = Unwritten
