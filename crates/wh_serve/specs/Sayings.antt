-- what a line of a client says
use Rattle.std.specs.Prelude.{ℕ, Bool, false, List, [], ◌∷◌, ◌++◌, Option, Some, None, Result, Ok, Err, cond, codes}
use Rattle.std.specs.Str.{bytes_eq}
use Rattle.wh_text.specs.Words.{words_of}
use Rattle.wh_event.specs.CommandLines.{command_of}
use Rattle.wh_event.specs.declared.event.Command.{Command}
use Rattle.wh_event.specs.declared.fault.LineFault.{LineFault}
use Rattle.wh_event.specs.declared.fault.LineFault.TheVariants.{TooLong}
use Rattle.wh_session.specs.Machines.{fitting}
use Rattle.wh_serve.specs.declared.said.Said.{Said}
use Rattle.wh_serve.specs.declared.said.Said.TheVariants.{Nothing, Asks, Stop, NoCommand}

-- the words of a line are `stop` alone
abbrev pub are_stop : List (List ℕ) → Bool
are_stop (word ∷ []) = bytes_eq word (codes "stop")
are_stop _ = false

-- what it says as a line of any script
abbrev pub read_as : Result (Option Command) LineFault → Said
read_as (Ok None) = Nothing
read_as (Ok (Some command)) = Asks command
read_as (Err fault) = NoCommand fault

-- What a line says, of which nothing is known where it is longer than 256 bytes. `stop` is no command of the warehouse, and is read
-- before these.
abbrev pub said : Option (List ℕ) → Said
said None = NoCommand TooLong
said (Some line) = cond (are_stop (words_of line)) Stop (read_as (command_of line))

abbrev pub says : List ℕ → Said
says line = said (fitting line)

-- the command that a line asks for, if it asks for one
abbrev pub asked : Said → List Command
asked (Asks command) = command ∷ []
asked Nothing = []
asked Stop = []
asked (NoCommand fault) = []

-- the commands of lines, in order
abbrev pub commands_of : List (List ℕ) → List Command
commands_of [] = []
commands_of (line ∷ lines) = asked (says line) ++ commands_of lines
