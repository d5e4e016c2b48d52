-- what lines of a script are answered
use Rattle.std.specs.Prelude.{ℕ, ◌+◌, List, [], ◌∷◌, ◌++◌, length, drop, codes, flat_map, Option, Some, None, Result, Ok, Err}
use Rattle.wh_event.specs.CommandLines.{command_of}
use Rattle.wh_event.specs.declared.event.Command.{Command}
use Rattle.wh_event.specs.declared.entry.Entry.{Entry}
use Rattle.wh_event.specs.declared.reply.Reply.{Reply}
use Rattle.wh_event.specs.declared.reply.Reply.TheVariants.{Clock}
use Rattle.wh_event.specs.declared.fault.LineFault.{LineFault}
use Rattle.wh_event.specs.declared.fault.LineFault.TheVariants.{Form, TooLong}
use Rattle.wh_log.specs.Told.{Answered}

-- the command that a line asks for, if it asks for one
abbrev pub asked : Result (Option Command) LineFault → List Command
asked (Ok (Some command)) = command ∷ []
asked (Ok None) = []
asked (Err fault) = []

-- the commands of lines, in order
abbrev pub commands_of : List (List ℕ) → List Command
commands_of [] = []
commands_of (line ∷ lines) = asked (command_of line) ++ commands_of lines

-- the clock behind an entry, by its reply and the clock before it: a tick tells it, and nothing else moves it
abbrev pub clock_after : ℕ → Reply → ℕ
clock_after clock (Clock now picked dropped) = now
clock_after clock reply = clock

-- the clock behind entries
abbrev pub clock_behind : ℕ → List Entry → ℕ
clock_behind clock [] = clock
clock_behind clock (entry ∷ entries) = clock_behind (clock_after clock entry.reply) entries

-- What outcomes answer, where the first entry among them has this place in the history, from 0, and finds the clock so.
abbrev pub answered_from : ℕ → ℕ → List (Option Entry) → List (Option Answered)
answered_from place clock [] = []
answered_from place clock (None ∷ outcomes) = None ∷ answered_from place clock outcomes
answered_from place clock (Some entry ∷ outcomes) =
    Some (record { place = place; clock = clock; reply = entry.reply }) ∷ answered_from (place + 1) (clock_after clock entry.reply) outcomes

-- What a command is answered: one that added no entry was refused for lack of memory. Text says what a reply is told as.
abbrev pub outcome_text : (Answered → List ℕ) → Option Answered → List ℕ
outcome_text text None = codes "refused E90"
outcome_text text (Some answered) = text answered

-- What a line is answered. A line that asks for nothing is answered nothing, and one that is no command its fault; for a
-- command it is told by the first outcome.
abbrev pub answers : (Answered → List ℕ) → Result (Option Command) LineFault → List (Option Answered) → List (List ℕ)
answers text (Ok None) outcomes = []
answers text (Err Form) outcomes = codes "refused C1" ∷ []
answers text (Err TooLong) outcomes = codes "refused C2" ∷ []
answers text (Ok (Some command)) [] = []
answers text (Ok (Some command)) (outcome ∷ outcomes) = outcome_text text outcome ∷ []

-- the replies to lines, line by line, where their commands have these outcomes
abbrev pub replies_to : (Answered → List ℕ) → List (List ℕ) → List (Option Answered) → List (List ℕ)
replies_to text [] outcomes = []
replies_to text (line ∷ lines) outcomes =
    answers text (command_of line) outcomes ++ replies_to text lines (drop (length (asked (command_of line))) outcomes)

-- a reply with its line feed
abbrev pub reply_line : List ℕ → List ℕ
reply_line reply = reply ++ 10 ∷ []

-- the replies as a text
abbrev pub text_of : List (List ℕ) → List ℕ
text_of replies = flat_map reply_line replies

-- what a line says, of which nothing is known where it is longer than 256 bytes
abbrev pub said : Option (List ℕ) → Result (Option Command) LineFault
said None = Err TooLong
said (Some line) = command_of line
