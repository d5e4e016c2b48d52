-- vehicles of a warehouse that goes on after a stop, brought to where they stood
use Rattle.std.specs.Prelude.{◌≡◌, ℕ, ◌+◌, ◌<◌, ◌≤◌, List, ◌++◌, Bool, true, false, length, map, slice_index, slice_set}
use Rattle.wh_grid.specs.declared.cell.Cell.{Cell}
use Rattle.wh_path.specs.Paths.{advanced}
use Rattle.wh_event.specs.declared.entry.Entry.{Entry}
use Rattle.wh_event.specs.declared.event.Event.{Event}
use Rattle.wh_event.specs.declared.reply.Reply.{Reply}
use Rattle.wh_core.specs.Laws.{IsBeginning}
use Rattle.wh_book.specs.Drafts.{Seen}
use Rattle.wh_drive.specs.Drives.{Drive, clock, reached, opened}
use Rattle.wh_order.specs.Orders.{Order, Represents}
use Rattle.wh_order.specs.Bringing.{StandBy, IsTooEarly}
use Rattle.wh_vehicles.specs.Plans.{places, Happening, Fleet, AllHappen, entries_of, IsCarriedOut}
use Rattle.wh_arrivals.specs.declared.standing.StandFault.{StandFault}
use Rattle.wh_arrivals.specs.declared.standing.StandFault.TheVariants.{NoMemory, TooEarly}

-- From the state with which the book began, where each vehicle stood where its agent was, things may have happened that lead to the fleet;
-- of them, these entries are the warehouse's.
pub record MayHaveHappened (book : Seen) (ahead : ℕ) (entries : List Entry) (fleet : Fleet) : Type 0 where
  pub happenings : List Happening
  pub all : AllHappen book.site (record { state = book.opening; drive = opened book.site.layout.nofollow ahead (places book.opening) }) happenings fleet
  pub entries_are : entries_of happenings ≡ entries

-- The order is that of a drive that carries out the run of the book: its rows are those of the history's ticks, and its clock
-- began with the run. Each vehicle stands at its step, or at the clock's if that is before, and was told nothing beyond.
pub record Stand (book : Seen) (ahead : ℕ) (steps : List ℕ) (order : Order) : Type 0 where
  pub drive : Drive
  pub represents : Represents order drive
  pub happened : MayHaveHappened book ahead book.history (record { state = book.state; drive = drive })
  pub carried : IsCarriedOut book.site book.history (record { state = book.state; drive = drive })
  pub time : clock drive + book.opening.clock ≡ book.state.clock
  pub stand : StandBy (clock drive) steps drive.vehicles

-- At a time of the run the agent's step is not before the clock's, and the plan had another at the clock's cell before,
-- whose step is no later.
pub record ComesTooEarly (book : Seen) (ahead : ℕ) (steps : List ℕ) (agent : ℕ) : Type 0 where
  pub before : List Entry
  pub after : List Entry
  pub parts : book.history ≡ before ++ after
  pub fleet : Fleet
  pub happened : MayHaveHappened book ahead before fleet
  pub early : IsTooEarly fleet.drive steps agent

-- So vehicles that carry out the run of the book never stand at these steps, all of them, as it ends: whatever happens, and
-- however many cells ahead each may be told.
abbrev pub TooEarlyIsNever : Type 0
TooEarlyIsNever =
    (book : Seen) (ahead other : ℕ) (steps : List ℕ) (agent : ℕ) (fleet : Fleet) → IsBeginning book.site book.opening → 1 ≤ other →
    ComesTooEarly book ahead steps agent → MayHaveHappened book other book.history fleet → length fleet.drive.vehicles ≡ length steps →
    ¬ ((i : ℕ) → i < length steps → reached fleet.drive i ≡ slice_index steps i)

-- Why vehicles cannot stand there; when out of memory, nothing is said. Under the rule against following an agent is named
-- whose vehicle comes too early.
abbrev pub TellsStandFault : Seen → ℕ → List ℕ → StandFault → Type 0
TellsStandFault book ahead steps NoMemory = Unit {0}
TellsStandFault book ahead steps (TooEarly agent) = book.site.layout.nofollow ≡ true → ComesTooEarly book ahead steps agent

-- the paths after an entry: one is given, all are a step further, or nothing changes
abbrev pub paths_after : Reply → Event → List (List Cell) → List (List Cell)
paths_after (Reply.Took task path) (Event.Request agent) paths = slice_set paths agent path
paths_after (Reply.Parked point path) (Event.Request agent) paths = slice_set paths agent path
paths_after (Reply.Clock now first last) event paths = map advanced paths
paths_after reply event paths = paths

-- whether a reply tells the clock
abbrev pub is_clock : Reply → Bool
is_clock (Reply.Clock now first last) = true
is_clock reply = false
