-- what a command line says, by its words
use Rattle.std.specs.Prelude.{ℕ, List, [], ◌∷◌, length, Option, Some, None, Result, Ok, Err, ◌&&◌, nat_le, nat_lt, cond, codes}
use Rattle.std.specs.List.{list_all}
use Rattle.std.specs.Str.{bytes_eq}
use Rattle.wh_text.specs.Words.{begins_comment, words_of}
use Rattle.wh_text.specs.Names.{is_name, name_of}
use Rattle.wh_text.specs.Numbers.{small_number_of}
use Rattle.wh_event.specs.declared.event.Command.{Command}
use Rattle.wh_event.specs.declared.event.Command.TheVariants.{Submit, Token, Tick, Replace, Close}
use Rattle.wh_event.specs.declared.fault.LineFault.{LineFault}
use Rattle.wh_event.specs.declared.fault.LineFault.TheVariants.{Form, TooLong}

-- 2 to 8 names are the stops of a task
abbrev pub stops_of : List (List ℕ) → Option (List (List ℕ))
stops_of names = cond (list_all is_name names && nat_le 2 (length names) && nat_le (length names) 8) (Some names) None

abbrev pub submit_by : Option (List ℕ) → Option (List (List ℕ)) → Option Command
submit_by (Some client) (Some stops) = Some (Submit client stops)
submit_by (Some client) None = None
submit_by None stops = None

-- a command's words after its first, or None where they are of another form
abbrev pub submit_of : List (List ℕ) → Option Command
submit_of [] = None
submit_of (client ∷ stops) = submit_by (name_of client) (stops_of stops)

-- the agent that one word names
abbrev pub agent_of : List (List ℕ) → Option ℕ
agent_of (agent ∷ []) = small_number_of agent
agent_of _ = None

abbrev pub token_by : Option ℕ → Option Command
token_by None = None
token_by (Some agent) = Some (Token agent)

abbrev pub token_of : List (List ℕ) → Option Command
token_of rest = token_by (agent_of rest)

abbrev pub replace_by : Option ℕ → Option Command
replace_by None = None
replace_by (Some agent) = Some (Replace agent)

abbrev pub replace_of : List (List ℕ) → Option Command
replace_of rest = replace_by (agent_of rest)

abbrev pub tick_of : List (List ℕ) → Option Command
tick_of [] = Some Tick
tick_of _ = None

abbrev pub close_of : List (List ℕ) → Option Command
close_of [] = Some Close
close_of _ = None

-- the command that the first word names
abbrev pub named : List ℕ → List (List ℕ) → Option Command
named name rest = cond (bytes_eq name (codes "submit")) (submit_of rest)
    (cond (bytes_eq name (codes "token")) (token_of rest)
    (cond (bytes_eq name (codes "tick")) (tick_of rest)
    (cond (bytes_eq name (codes "replace")) (replace_of rest)
    (cond (bytes_eq name (codes "close")) (close_of rest) None))))

abbrev pub formed : Option Command → Result (Option Command) LineFault
formed None = Err Form
formed (Some command) = Ok (Some command)

-- a line of no word or of a comment asks for nothing
abbrev pub command_by : List (List ℕ) → Result (Option Command) LineFault
command_by [] = Ok None
command_by (name ∷ rest) = cond (begins_comment name) (Ok None) (formed (named name rest))

-- a line that is too long is that before all else
abbrev pub command_of : List ℕ → Result (Option Command) LineFault
command_of line = cond (nat_lt 256 (length line)) (Err TooLong) (command_by (words_of line))
