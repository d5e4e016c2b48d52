-- One line is told what it was answered.
use Rattle.std.specs.Prelude.{◌≡◌, ℕ, List, ◌∷◌, ◌++◌, drop, Option}
use Rattle.std.specs.Io.KnownBytes.{Appends}
use Rattle.wh_event.specs.declared.entry.Entry.{Entry}
use Rattle.wh_log.specs.Told.{Answered}
use Rattle.wh_replay.specs.Answers.{text_of}
use Rattle.wh_replay.specs.declared.answering.Answer.{Answer}
use Rattle.wh_replay.specs.declared.replying.Told.{Told}
use Rattle.wh_replay.specs.Answering.{told_by_answers}

-- What it was answered is told, and what is left to be told follows, whatever other lines were answered.
pub record TellsOne (text : Answered → List ℕ) (answer : Answer) (history : List Entry) (told after : Told) (had has : Option (List ℕ)) : Type 0 where
  pub replies : List (List ℕ)
  pub goes_on : (rest : List Answer) → told_by_answers text told.next told.clock (answer ∷ rest) (drop told.next history)
      ≡ replies ++ told_by_answers text after.next after.clock rest (drop after.next history)
  pub appends : Appends had has (text_of replies)
