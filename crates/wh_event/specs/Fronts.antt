-- lines that stand at the front of a text
use Rattle.std.specs.Prelude.{◌≡◌, ℕ, ◌≤◌, List, [], ◌∷◌, ◌++◌, length, take, Some, Ok}
use Rattle.wh_text.specs.Lines.{without_cr, IsLine}
use Rattle.wh_event.specs.CommandLines.{command_of}
use Rattle.wh_event.specs.declared.event.Command.{Command}

-- the text begins with a line that asks for the command; it has this many bytes, with the line feed behind it
pub record IsAtFront (command : Command) (bytes : ℕ) (text : List ℕ) : Type 0 where
  pub line : List ℕ
  pub plain : IsLine line
  pub asks : command_of (without_cr line) ≡ Ok (Some command)
  pub within : bytes ≤ length text
  pub front : take bytes text ≡ line ++ 10 ∷ []
