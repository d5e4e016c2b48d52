-- What lines are told, by the entries of the history and a small value for each line.
use Rattle.std.specs.Prelude.{◌≡◌, ℕ, ◌+◌, Bool, List, [], ◌∷◌, ◌++◌, length, codes, Option, Result}
use Rattle.std.specs.Option.{option_to_list}
use Rattle.wh_grid.specs.Grids.{Floor}
use Rattle.wh_token.specs.Drafts.{Seen}
use Rattle.wh_event.specs.declared.event.Command.{Command}
use Rattle.wh_event.specs.declared.entry.Entry.{Entry as Line}
use Rattle.wh_event.specs.declared.fault.LineFault.{LineFault}
use Rattle.wh_log.specs.Told.{Answered, told_text}
use Rattle.wh_replay.specs.declared.asker.Asker.{Asker}
use Rattle.wh_replay.specs.Answers.{asked, answers, clock_after}
use Rattle.wh_replay.specs.Scripts.{Gives}
use Rattle.wh_replay.specs.declared.answering.Answer.{Answer}
use Rattle.wh_replay.specs.declared.answering.Answer.TheVariants.{Entry, NoEntry, NoCommand, TooLong}

-- What lines are told that were answered so, where the first of the entries has this place in the history, from 0, and finds
-- the clock so.
abbrev pub told_by_answers : (Answered → List ℕ) → ℕ → ℕ → List Answer → List Line → List (List ℕ)
told_by_answers text place clock [] entries = []
told_by_answers text place clock (Entry ∷ rest) [] = told_by_answers text place clock rest []
told_by_answers text place clock (Entry ∷ rest) (entry ∷ entries) =
    text (record { place = place; clock = clock; reply = entry.reply }) ∷ told_by_answers text (place + 1) (clock_after clock entry.reply) rest entries
told_by_answers text place clock (NoEntry ∷ rest) entries = codes "refused E90" ∷ told_by_answers text place clock rest entries
told_by_answers text place clock (NoCommand ∷ rest) entries = codes "refused C1" ∷ told_by_answers text place clock rest entries
told_by_answers text place clock (TooLong ∷ rest) entries = codes "refused C2" ∷ told_by_answers text place clock rest entries

-- how many entries answer lines
abbrev pub entry_count : List Answer → ℕ
entry_count [] = 0
entry_count (Entry ∷ rest) = 1 + entry_count rest
entry_count (NoEntry ∷ rest) = entry_count rest
entry_count (NoCommand ∷ rest) = entry_count rest
entry_count (TooLong ∷ rest) = entry_count rest

-- one line was answered: what it is told follows from the answer and the entry that was added, if one was
pub record AnswersLine {X : Type 0} (fits : X → Floor → Bool) (count : X → ℕ) (asker : Asker) (line : Result (Option Command) LineFault)
    (old : Seen) (spares : List X) (new : Seen) (rest : List X) (answer : Option Answer) : Type 0 where
  pub replies : List (List ℕ)
  pub gives : Gives fits count asker.caller (asked line) (answers (told_text asker.form) line) old spares new rest replies
  pub added : List Line
  pub added_are : new.history ≡ old.history ++ added
  pub replies_are : replies ≡ told_by_answers (told_text asker.form) (length old.history) old.state.clock (option_to_list answer) added
  pub counted : entry_count (option_to_list answer) ≡ length added
