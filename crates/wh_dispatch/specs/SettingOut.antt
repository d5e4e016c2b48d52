-- vehicles that go on from where they stand, as after a stop
use Rattle.std.specs.Prelude.{◌↔◌, ℕ, List, ◌++◌, Contains, length, Option, option_map}
use Rattle.std.specs.List.{AllPairs}
use Rattle.std.specs.Io.KnownBytes.{Appends}
use Rattle.wh_tasks.specs.declared.task.Task.{Task}
use Rattle.wh_book.specs.Drafts.{Seen}
use Rattle.wh_replay.specs.Answers.{text_of}
use Rattle.wh_drive.specs.Drives.{Drive}
use Rattle.wh_drive.specs.Runs.{Event, Run}
use Rattle.wh_order.specs.Orders.{Order}
use Rattle.wh_order.specs.Settling.{OnlySettle, told_by}
use Rattle.wh_vehicles.specs.Visits.{Visit, HasMade}
use Rattle.wh_dispatch.specs.declared.visits.Pending.{Pending}
use Rattle.wh_dispatch.specs.Crews.{Crew, IsInStep, IsManned}
use Rattle.wh_dispatch.specs.Lines.{InTurn, go_lines, visit_lines}

-- no visit was told
abbrev pub NoneIsTold : Visit → Type 0
NoneIsTold v = ⊥

-- the task of this number as one of which no visit was told, if an agent has it
abbrev pub untold_of : ℕ → Task → Option Pending
untold_of n task = option_map (λ agent. record { agent = agent; task = n; stops = length task.stops; told = 0 }) task.agent

-- the vehicles have a drive by which the run of the book is carried out
abbrev pub SomeInStep : Seen → Order → Type 0
SomeInStep book order = (d : Drive) × IsInStep book order d

-- Vehicles go on as far as they may: steps that stay are passed, all visits that were made by then are told, each once and those
-- of a task in its order, and then each step that leads away as it is to be made, in order.
pub record SetsOut (book : Seen) (d e : Drive) (had has : Option (List ℕ)) : Type 0 where
  pub events : List Event
  pub only : OnlySettle d events
  pub run : Run d events e
  pub visits : List Visit
  pub made : (v : Visit) → Contains visits v ↔ HasMade book.opening.clock (record { state = book.state; drive = e }) v
  pub in_turn : AllPairs InTurn visits
  pub appends : Appends had has (text_of (visit_lines visits ++ go_lines (told_by d events)))

-- From each drive of the vehicles, and then all is told.
abbrev pub SetsOutFrom : Seen → Crew → Crew → Option (List ℕ) → Option (List ℕ) → Type 0
SetsOutFrom book crew next had has = (d : Drive) → IsInStep book crew.order d → (e : Drive) × IsManned book next e × SetsOut book d e had has
