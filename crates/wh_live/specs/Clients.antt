-- The clients of a run: what the sections behind the site say.
use Rattle.std.specs.Prelude.{◌≡◌, ◌⊎◌, ℕ, ◌+◌, ◌<◌, ◌≤◌, true, false, List, [], ◌∷◌, length, cond}
use Rattle.wh_lines.specs.Input.{Input}
use Rattle.wh_lines.specs.Section.{Overflows, Sectioned}
use Rattle.wh_text.specs.Lines.{lines_of}
use Rattle.wh_event.specs.declared.event.Command.{Command}
use Rattle.wh_edge.specs.Script.{IsScript, IsFirstFault}
use Rattle.wh_edge.specs.Site.{Breaks}
use Rattle.wh_edge.specs.declared.work.ScriptPlace.{ScriptPlace}
use Rattle.wh_edge.specs.declared.trouble.Trouble.{Trouble}
use Rattle.wh_edge.specs.declared.trouble.Trouble.TheVariants as trouble

-- a client's section was read, and its lines are these commands
pub record ClientRead (old new : Input) (commands : List Command) : Type 0 where
  pub script : List ℕ
  pub section : Sectioned old new script
  pub within : length script ≤ 268435456
  pub says : IsScript (lines_of script) commands

-- a client's section was read, and this line of it is the first that is no command
pub record ScriptRefused (old new : Input) (place : ScriptPlace) : Type 0 where
  pub script : List ℕ
  pub section : Sectioned old new script
  pub within : length script ≤ 268435456
  pub says : IsFirstFault (lines_of script) place

-- why a client was not read; when out of memory, nothing more is said
abbrev pub ClientFault : Trouble → Input → Input → Type 0
ClientFault (trouble.Script place) old new = ScriptRefused old new place
ClientFault trouble.SectionTooLong old new = Overflows old new 268435456
ClientFault trouble.Broken old new = Breaks old new
ClientFault trouble.Endless old new = new.reads ≡ 100000000
ClientFault trouble.NoMemory old new = Unit {0}
ClientFault _ old new = ⊥

-- clients were read in turn, each where the input had not ended, and have these commands
abbrev pub ReadInTurn : Input → Input → List (List Command) → Type 0
ReadInTurn old new [] = new ≡ old
ReadInTurn old new (commands ∷ more) =
    (old.ended ≡ false) × ((between : Input) × ClientRead old between commands × ReadInTurn between new more)

-- All clients were read, up to the end of the input. With the agents and the clock they are at most 64 workers.
pub record ClientsRead (agents : ℕ) (old new : Input) (clients : List (List Command)) : Type 0 where
  pub in_turn : ReadInTurn old new clients
  pub ended : new.ended ≡ true
  pub few : length clients + agents + 1 ≤ 64

-- with one more client, if one follows, there are more than 64 workers
abbrev pub IsCrowded : ℕ → ℕ → Input → Type 0
IsCrowded agents clients at = 64 < clients + cond at.ended 0 1 + agents + 1

-- what stops the reading after a number of clients: too many workers, or what is wrong with the next client
abbrev pub NextFault : Trouble → ℕ → ℕ → Input → Input → Type 0
NextFault told agents clients old new =
    ((told ≡ trouble.TooManyWorkers) × (new ≡ old) × IsCrowded agents clients old)
    ⊎ ((old.ended ≡ false) × (clients + 1 + agents + 1 ≤ 64) × ClientFault told old new)

-- some clients were read, and this was wrong then
pub record ClientsFault (told : Trouble) (agents : ℕ) (old new : Input) : Type 0 where
  pub between : Input
  pub clients : List (List Command)
  pub in_turn : ReadInTurn old between clients
  pub next : NextFault told agents (length clients) between new
