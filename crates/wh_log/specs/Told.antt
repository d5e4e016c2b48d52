-- The texts of a reply: in few words, as the log has it, or so behind its place in the history.
use Rattle.std.specs.Prelude.{ℕ, ◌<◌, ◌^◌, List, [], ◌∷◌, ◌++◌, decimal}
use Rattle.wh_words.specs.Words.{line_of}
use Rattle.wh_grid.specs.declared.cell.Cell.{Cell}
use Rattle.wh_event.specs.declared.reply.Reply.{Reply}
use Rattle.wh_event.specs.declared.reply.Reply.TheVariants.{Took, Parked}
use Rattle.wh_event.specs.ReplyTexts.{reply_text}
use Rattle.wh_log.specs.Spelling.{reply_words}
use Rattle.wh_log.specs.Ranges.{ReplyKeeps}
use Rattle.wh_log.specs.declared.form.Form.{Form}
use Rattle.wh_log.specs.declared.form.Form.TheVariants.{Short, Full, Placed}

-- the reply of an entry: its place in the history, from 0, the clock before it, and its reply
pub record Answered : Type 0 where
  pub place : ℕ
  pub clock : ℕ
  pub reply : Reply

-- the cells of the path that a reply tells, if it tells one
abbrev pub cells_of : Reply → List Cell
cells_of (Took task path) = path
cells_of (Parked point path) = path
cells_of reply = []

-- a reply as the log has it: of a path every cell is told
abbrev pub full_text : Reply → List ℕ
full_text reply = line_of (reply_words reply)

-- PLACE CLOCK, and the reply as the log has it
abbrev pub placed_text : Answered → List ℕ
placed_text answered = decimal answered.place ++ 32 ∷ (decimal answered.clock ++ 32 ∷ full_text answered.reply)

-- the place and the clock are numbers of 64 bits, and the reply is one that a log can tell
pub record AnsweredKeeps (answered : Answered) : Type 0 where
  pub place_fits : answered.place < 2 ^ 64
  pub clock_fits : answered.clock < 2 ^ 64
  pub reply_keeps : ReplyKeeps answered.reply

-- what a reply is told as
abbrev pub told_text : Form → Answered → List ℕ
told_text Short answered = reply_text answered.reply
told_text Full answered = full_text answered.reply
told_text Placed answered = placed_text answered
