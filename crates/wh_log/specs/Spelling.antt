-- The words of an entry: its text in a log is fixed by it.
use Rattle.std.specs.Prelude.{ℕ, List, [], ◌∷◌, ◌++◌, map, codes, decimal}
use Rattle.wh_words.specs.Words.{line_of}
use Rattle.wh_grid.specs.declared.cell.Cell.{Cell}
use Rattle.wh_event.specs.declared.event.Event.{Event}
use Rattle.wh_event.specs.declared.event.Event.TheVariants.{Submit, Request, Tick, Close, Replace}
use Rattle.wh_event.specs.declared.event.Spare.{Spare}
use Rattle.wh_event.specs.declared.event.Spare.TheVariants as planner
use Rattle.wh_event.specs.declared.reply.Reply.{Reply}
use Rattle.wh_event.specs.declared.reply.Reply.TheVariants.{Accepted, Took, Rested, Parked, Clock, Replaced, Closed, Refused}
use Rattle.wh_event.specs.declared.reply.Refusal.{Refusal}
use Rattle.wh_event.specs.declared.reply.Refusal.TheVariants as why
use Rattle.wh_event.specs.declared.entry.Entry.{Entry}

-- what is told of the planner that came with a Replace
abbrev pub spare_words : Spare → List (List ℕ)
spare_words planner.None = codes "none" ∷ []
spare_words planner.Foreign = codes "foreign" ∷ []
spare_words (planner.Fits slots) = codes "fits" ∷ decimal slots ∷ []

-- an event, as the commands are written; a Request is a `token`
abbrev pub event_words : Event → List (List ℕ)
event_words (Submit client stops) = codes "submit" ∷ client ∷ stops
event_words (Request agent) = codes "token" ∷ decimal agent ∷ []
event_words Tick = codes "tick" ∷ []
event_words Close = codes "close" ∷ []
event_words (Replace agent spare) = codes "replace" ∷ decimal agent ∷ spare_words spare

-- X,Y
abbrev pub cell_word : Cell → List ℕ
cell_word cell = decimal cell.x ++ 44 ∷ decimal cell.y

-- a refusal: its code, and the name or the number that it tells
abbrev pub refusal_words : Refusal → List (List ℕ)
refusal_words (why.UnknownPoint name) = codes "E1" ∷ name ∷ []
refusal_words (why.NotStation name) = codes "E2" ∷ name ∷ []
refusal_words why.TasksFull = codes "E3" ∷ []
refusal_words (why.UnknownAgent agent) = codes "E4" ∷ decimal agent ∷ []
refusal_words (why.Moving steps) = codes "E5" ∷ decimal steps ∷ []
refusal_words why.NoPath = codes "E6" ∷ []
refusal_words why.ClockFull = codes "E7" ∷ []
refusal_words why.Closed = codes "E8" ∷ []
refusal_words why.ForeignPlanner = codes "E9" ∷ []
refusal_words why.NoSpare = codes "E10" ∷ []

-- a reply; of a path every cell is told, from index 0
abbrev pub reply_words : Reply → List (List ℕ)
reply_words (Accepted task) = codes "accepted" ∷ decimal task ∷ []
reply_words (Took task path) = codes "took" ∷ decimal task ∷ codes "path" ∷ map cell_word path
reply_words Rested = codes "rested" ∷ []
reply_words (Parked point path) = codes "parked" ∷ point ∷ codes "path" ∷ map cell_word path
reply_words (Clock now picked dropped) = codes "clock" ∷ decimal now ∷ codes "picked" ∷ decimal picked ∷ codes "dropped" ∷ decimal dropped ∷ []
reply_words (Replaced slots) = codes "replaced" ∷ decimal slots ∷ []
reply_words Closed = codes "closed" ∷ []
reply_words (Refused refusal) = codes "refused" ∷ refusal_words refusal

-- CALLER EVENT = REPLY
abbrev pub entry_words : Entry → List (List ℕ)
entry_words entry = decimal entry.caller ∷ (event_words entry.event ++ codes "=" ∷ reply_words entry.reply)

-- with one space between the words
abbrev pub entry_line : Entry → List ℕ
entry_line entry = line_of (entry_words entry)
