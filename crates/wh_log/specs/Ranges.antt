-- What a log can tell: the ranges of its values.
use Rattle.std.specs.Prelude.{ℕ, ◌<◌, ◌≤◌, ◌^◌, List, [], ◌∷◌, length}
use Rattle.std.specs.List.{AllByRecursion}
use Rattle.wh_grid.specs.Grids.{IsMove}
use Rattle.wh_grid.specs.declared.cell.Cell.{Cell}
use Rattle.wh_event.specs.declared.event.Event.{Event}
use Rattle.wh_event.specs.declared.event.Event.TheVariants.{Submit, Request, Tick, Close, Replace}
use Rattle.wh_event.specs.declared.event.Spare.{Spare}
use Rattle.wh_event.specs.declared.event.Spare.TheVariants as planner
use Rattle.wh_event.specs.declared.reply.Reply.{Reply}
use Rattle.wh_event.specs.declared.reply.Reply.TheVariants.{Accepted, Took, Rested, Parked, Clock, Replaced, Closed, Refused}
use Rattle.wh_event.specs.declared.reply.Refusal.{Refusal}
use Rattle.wh_event.specs.declared.reply.Refusal.TheVariants as why
use Rattle.wh_event.specs.declared.entry.Entry.{Entry}
use Rattle.wh_event.specs.Grammar.{IsName}

-- at most 9 digits
abbrev pub IsSmall : ℕ → Type 0
IsSmall n = n < 10 ^ 9

-- a clock, the opening one or a later one
abbrev pub IsClock : ℕ → Type 0
IsClock clock = clock ≤ 1000000000

-- a coordinate has at most 4096 values
abbrev pub IsInside : Cell → Type 0
IsInside cell = (cell.x ≤ 4095) × (cell.y ≤ 4095)

-- each next cell is the one before or beside it
abbrev pub Follow : Cell → List Cell → Type 0
Follow last [] = Unit {0}
Follow last (cell ∷ cells) = IsMove last cell × Follow cell cells

-- a path: at least one cell, each inside, each next one the one before or beside it
abbrev pub IsPath : List Cell → Type 0
IsPath [] = ⊥
IsPath (cell ∷ cells) = AllByRecursion IsInside (cell ∷ cells) × Follow cell cells

-- any small number of slots may be told
abbrev pub SpareKeeps : Spare → Type 0
SpareKeeps (planner.Fits slots) = IsSmall slots
SpareKeeps planner.None = Unit {0}
SpareKeeps planner.Foreign = Unit {0}

-- a task has at least two stops and at most as many as the version allows
abbrev pub EventKeeps : ℕ → Event → Type 0
EventKeeps most (Submit client stops) = IsName client × AllByRecursion IsName stops × (2 ≤ length stops) × (length stops ≤ most)
EventKeeps most (Request agent) = IsSmall agent
EventKeeps most Tick = Unit {0}
EventKeeps most Close = Unit {0}
EventKeeps most (Replace agent spare) = IsSmall agent × SpareKeeps spare

-- what a refusal tells is a name, a small number, or a number of 64 bits
abbrev pub RefusalKeeps : Refusal → Type 0
RefusalKeeps (why.UnknownPoint name) = IsName name
RefusalKeeps (why.NotStation name) = IsName name
RefusalKeeps why.TasksFull = Unit {0}
RefusalKeeps (why.UnknownAgent agent) = IsSmall agent
RefusalKeeps (why.Moving steps) = steps < 2 ^ 64
RefusalKeeps why.NoPath = Unit {0}
RefusalKeeps why.ClockFull = Unit {0}
RefusalKeeps why.Closed = Unit {0}
RefusalKeeps why.ForeignPlanner = Unit {0}
RefusalKeeps why.NoSpare = Unit {0}

-- what a reply tells: small numbers, a clock, names and paths
abbrev pub ReplyKeeps : Reply → Type 0
ReplyKeeps (Accepted task) = IsSmall task
ReplyKeeps (Took task path) = IsSmall task × IsPath path
ReplyKeeps Rested = Unit {0}
ReplyKeeps (Parked point path) = IsName point × IsPath path
ReplyKeeps (Clock now picked dropped) = IsClock now × IsSmall picked × IsSmall dropped
ReplyKeeps (Replaced slots) = IsSmall slots
ReplyKeeps Closed = Unit {0}
ReplyKeeps (Refused refusal) = RefusalKeeps refusal

-- what a line of a log can tell, where a task has at most the given number of stops
pub record Keeps (most : ℕ) (entry : Entry) : Type 0 where
  pub caller : entry.caller < 64
  pub event : EventKeeps most entry.event
  pub reply : ReplyKeeps entry.reply
