-- what the calls of a desk tell
use Rattle.std.specs.Prelude.{◌≡◌, ℕ, ◌<◌, ◌≤◌, Bool, true, List, [], ◌∷◌, ◌++◌, length, take, Option, Some, slice_get, slice_set, All}
use mathlib.Core.List.{IsPrefix}
use Rattle.wh_grid.specs.Grids.{Floor}
use Rattle.once_cell.specs.declared.race.note.Note.{Note}
use Rattle.logbook.specs.Pages.{Book}
use Rattle.wh_event.specs.declared.entry.Entry.{Entry}
use Rattle.wh_event.specs.declared.event.Event.{Event}
use Rattle.wh_event.specs.declared.event.Command.{Command}
use Rattle.wh_event.specs.declared.event.Command.TheVariants.{Token}
use Rattle.wh_event.specs.declared.event.Spare.{Spare}
use Rattle.wh_core.specs.States.{State}
use Rattle.wh_core.specs.Steps.{Step, Run}
use Rattle.wh_book.specs.Drafts.{AllServed, HasWaysForAll}
use Rattle.wh_token.specs.Asking.{AllWouldRest, IsNextToAsk, MayBeAsked}
use Rattle.wh_token.specs.Commands.{event_of}
use Rattle.wh_token.specs.Fleet.{StaySeated}
use Rattle.wh_board.specs.Pasts.{Origin, Known}
use Rattle.wh_desk.specs.Lists.{AllAt, IsRunFrom, entries_of, StandIn, Received, Ledger, TellsTheSame}
use Rattle.wh_desk.specs.declared.answer.DeskFault.{DeskFault}

-- the event is that of the command, whatever it tells of a spare planner
abbrev pub IsAskedBy : Command → Event → Type 0
IsAskedBy command event = (told : Spare) × (event ≡ event_of command told)

-- one entry was appended by a step, and the pass received it
pub record Entered {X : Type 0} (origin : Origin) (before : Ledger X) (had : Received) (command : Command) (after : Ledger X) (has : Received)
    (position : ℕ) (entry : Entry) : Type 0 where
  pub caller_is : entry.caller ≡ had.caller
  pub command_is : IsAskedBy command entry.event
  pub position_is : position ≡ length before.history
  pub history : after.history ≡ before.history ++ entry ∷ []
  pub step : Step origin.site before.state entry after.state
  pub capacity : after.capacity ≡ before.capacity
  pub had_all : had.list ≡ entries_of before.history had.caller
  pub had_known : IsPrefix had.known before.history
  pub has_caller : has.caller ≡ had.caller
  pub has_list : has.list ≡ had.list ++ (position, entry) ∷ []
  pub has_known : has.known ≡ after.history

-- a caller that is told that the journal is full knows of a history of its length, which goes on from the one it knew of
pub record KnowsFull (capacity : ℕ) (had has : Received) : Type 0 where
  pub caller_is : has.caller ≡ had.caller
  pub list_is : has.list ≡ had.list
  pub goes_on : IsPrefix had.known has.known
  pub is_full : length has.known ≡ capacity

-- what a refused call leaves of a pass, where the journal has a given number of positions: all as it was, but for what is known of a
-- full journal
abbrev pub Refuses : ℕ → Received → DeskFault → Received → Type 0
Refuses capacity had DeskFault.Full has = KnowsFull capacity had has
Refuses capacity had fault has = has ≡ had

-- a caller whose pass is stale, or whose journal is full, is told so first of all: the journal and its planners are as
-- they were
abbrev pub Untouched : {X : Type 0} → Ledger X → DeskFault → Ledger X → Type 0
Untouched before DeskFault.Stale after = after ≡ before
Untouched before DeskFault.Full after = after ≡ before
Untouched before fault after = TellsTheSame before after

-- There is a history that is a run, in which all that the pass had received stands at its positions, and this entry after
-- all of them. It goes on from the history of which the pass knew, and the entry stands behind that. The pass has the entry too now, and so
-- all that its caller did in that history, of which it knows.
pub record Called (origin : Origin) (had : Received) (command : Command) (has : Received) (position : ℕ) (entry : Entry) : Type 0 where
  pub history : List Entry
  pub state : State
  pub run : Run origin.site origin.opening history state
  pub goes_on : IsPrefix had.known history
  pub behind : length had.known ≤ position
  pub had_stand : StandIn history had.list
  pub stands : slice_get history position ≡ Some entry
  pub later : All (λ x. x.0 < position) had.list
  pub caller_is : entry.caller ≡ had.caller
  pub command_is : IsAskedBy command entry.event
  pub has_caller : has.caller ≡ had.caller
  pub has_list : has.list ≡ had.list ++ (position, entry) ∷ []
  pub has_all : has.list ≡ entries_of history had.caller
  pub has_known : has.known ≡ history

-- the clock at a place of the history: that of the state to which the entries before the place lead
abbrev pub IsClockAt : Origin → List Entry → ℕ → ℕ → Type 0
IsClockAt origin history position clock =
    (before : State) × Run origin.site origin.opening (take position history) before × (clock ≡ before.clock)

-- a state to which the entries before a place of the history lead
pub record IsStateAt (origin : Origin) (history : List Entry) (place : ℕ) (s : State) : Type 0 where
  pub within : place ≤ length history
  pub run : Run origin.site origin.opening (take place history) s

-- at a place of the history the agent is next to ask, of those that were not asked
abbrev pub IsNextAt : Origin → List Entry → ℕ → List Bool → ℕ → Type 0
IsNextAt origin history place asked agent = (s : State) × IsStateAt origin history place s × IsNextToAsk origin.site s (MayBeAsked asked) agent

-- at a place of the history each agent that is due would be told to rest, of those that were not asked
abbrev pub AllRestAt : Origin → List Entry → ℕ → List Bool → Type 0
AllRestAt origin history place asked = (s : State) × IsStateAt origin history place s × AllWouldRest origin.site s (MayBeAsked asked)

-- the pass has what it had, and knows of a history that goes on from the one it knew of
pub record KnowsMore (had has : Received) : Type 0 where
  pub caller_is : has.caller ≡ had.caller
  pub list_is : has.list ≡ had.list
  pub goes_on : IsPrefix had.known has.known

-- The agent that was next to ask in the history before the entry, of those that were not asked, took the token, and is marked as asked.
pub record AskedNext (origin : Origin) (had : Received) (asked : List Bool) (has : Received) (marked : List Bool) (position : ℕ) (entry : Entry) : Type 0 where
  pub agent : ℕ
  pub called : Called origin had (Token agent) has position entry
  pub next : IsNextAt origin has.known position asked agent
  pub marked_is : marked ≡ slice_set asked agent true

-- Nobody asked: at the end of the history that the pass knows now each agent that is due would be told to rest, of those that were not
-- asked.
pub record NobodyAsked (origin : Origin) (had : Received) (asked : List Bool) (has : Received) (marked : List Bool) : Type 0 where
  pub knows : KnowsMore had has
  pub rest : AllRestAt origin has.known (length has.known) asked
  pub marked_is : marked ≡ asked

-- what comes with a receipt is of this desk's book, and stands for a history with the receipt's entry at its position
pub record TellsReceipt (book : Book) (origin : Origin) (position : ℕ) (entry : Entry) (told : Known) : Type 0 where
  pub book_is : told.book ≡ book
  pub origin_is : told.past.origin ≡ origin
  pub stands : slice_get told.past.history position ≡ Some entry

-- What comes back: where an agent's planner was replaced by the one handed in, a planner that plans on the map; else what
-- was handed in.
abbrev pub HandsBack : {X : Type 0} → (X → Floor → Bool) → Floor → Option ℕ → Option X → Option X → Type 0
HandsBack {X} fits grid (Some agent) (Some handed) back = (planner : X) × (back ≡ Some planner) × (fits planner grid ≡ true)
HandsBack fits grid agent handed back = back ≡ handed

-- Where an agent's planner was replaced, the one handed in has its seat and the one that had it comes back. Else what was
-- handed in comes back, and the planners stay as at such a command.
abbrev pub Reseats : {X : Type 0} → Command → Option ℕ → List X → Option X → List X → Option X → Type 0
Reseats command (Some agent) old (Some handed) new back = (new ≡ slice_set old agent handed) × (back ≡ slice_get old agent)
Reseats command agent old handed new back = StaySeated command old new × (back ≡ handed)

-- there is a history of this length that is a run, in which the receipts of both stand at their positions, and are all that their callers did
pub record Together (origin : Origin) (one two : Received) (long : ℕ) : Type 0 where
  pub history : List Entry
  pub state : State
  pub run : Run origin.site origin.opening history state
  pub length_is : long ≡ length history
  pub one_stands : StandIn history one.list
  pub two_stands : StandIn history two.list
  pub one_all : one.list ≡ entries_of history one.caller
  pub two_all : two.list ≡ entries_of history two.caller

-- There is one history, a run, in which the receipts of both stand at their positions. What each has are the first of its
-- caller's entries there, with none left out, and what each knows of is a beginning of it.
pub record Agreed (origin : Origin) (one two : Received) : Type 0 where
  pub history : List Entry
  pub run : IsRunFrom origin history
  pub one_stands : StandIn history one.list
  pub two_stands : StandIn history two.list
  pub one_first : IsPrefix one.list (entries_of history one.caller)
  pub two_first : IsPrefix two.list (entries_of history two.caller)
  pub one_known : IsPrefix one.known history
  pub two_known : IsPrefix two.known history

-- on a well-formed instance, where all were on their ways as the run began, none of the entries is a refusal for lack of a path
abbrev pub NoneWantsPath : Origin → List Entry → Type 0
NoneWantsPath origin history = HasWaysForAll origin.site origin.opening → AllServed history

-- a pass for each caller, in order
pub record InOrder (callers : ℕ) (passes : List Received) : Type 0 where
  pub count : length passes ≡ callers
  pub each : AllAt (λ k pass. pass.caller ≡ k) passes

abbrev pub AllEmpty : List Received → Type 0
AllEmpty passes = All (λ pass. pass.list ≡ []) passes

-- each pass knows of a beginning of the history
abbrev pub AllBegin : List Entry → List Received → Type 0
AllBegin history passes = All (λ pass. IsPrefix pass.known history) passes

-- the note is of the cell of the receipt at this place of the list, and knows its entry
pub record NoteOf (row : List ℕ) (list : List (ℕ × Entry)) (at : ℕ) (note : Note Entry) : Type 0 where
  pub position : ℕ
  pub entry : Entry
  pub held : slice_get list at ≡ Some (position, entry)
  pub cell : slice_get row position ≡ Some note.cell
  pub known : note.known ≡ Some entry
