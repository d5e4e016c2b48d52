-- What a client's script says.
use Rattle.std.specs.Prelude.{◌≡◌, ◌+◌, ℕ, List, [], ◌∷◌, ◌++◌, length, Option, Some, None, Result, Ok, Err, true, is_ok}
use Rattle.std.specs.List.{AllByRecursion, flat_map}
use Rattle.wh_event.specs.CommandLines.{command_of}
use Rattle.wh_event.specs.declared.event.Command.{Command}
use Rattle.wh_event.specs.declared.fault.LineFault.{LineFault}
use Rattle.wh_edge.specs.declared.work.ScriptFault.{ScriptFault}
use Rattle.wh_edge.specs.declared.work.ScriptFault.TheVariants.{NoMemory, At}
use Rattle.wh_edge.specs.declared.work.ScriptPlace.{ScriptPlace}

-- the command of a line, if it has one
abbrev pub command_in : Result (Option Command) LineFault → List Command
command_in (Ok (Some command)) = command ∷ []
command_in (Ok None) = []
command_in (Err kind) = []

-- each of the lines is a command or skipped
abbrev pub AreCommands : List (List ℕ) → Type 0
AreCommands = AllByRecursion (λ line. is_ok (command_of line) ≡ true)

-- the lines' commands, in order
abbrev pub commands_in : List (List ℕ) → List Command
commands_in = flat_map (λ line. command_in (command_of line))

-- the script is these commands
abbrev pub IsScript : List (List ℕ) → List Command → Type 0
IsScript lines commands = AreCommands lines × (commands ≡ commands_in lines)

-- the first line that is no command, and what is wrong with it
pub record IsFirstFault (lines : List (List ℕ)) (place : ScriptPlace) : Type 0 where
  pub before : List (List ℕ)
  pub line : List ℕ
  pub after : List (List ℕ)
  pub lines_are : lines ≡ before ++ line ∷ after
  pub earlier : AreCommands before
  pub kind : command_of line ≡ Err place.kind
  pub number : place.line ≡ length before + 1

abbrev pub IsFault : List (List ℕ) → ScriptFault → Type 0
IsFault lines NoMemory = Unit {0}
IsFault lines (At place) = IsFirstFault lines place
